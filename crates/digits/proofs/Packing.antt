-- Packing and unpacking are inverse, and what one more digit does to a packed row.
use Rattle.std.proofs.Common.{◌≡◌, ℕ, zero, suc, ◌+◌, ◌-◌, ◌*◌, ◌/◌, ◌%◌, ◌^◌, ◌<◌, ◌≤◌, false, eqb, List, [], ◌∷◌, ◌++◌, length, get_or, drop, set, replicate, sym, refl, ap, ◌∙◌, ⊎_elim, add_assoc, mul-le-mul_right, mod-lt, mod-eq_of_lt, mul_assoc, suc-mul, mul_comm, add_comm, suc-add, pow-suc, zero-add, zero-mul, arith}
use native.Mathlib.Nat.{mul-add-div_right, mul-add-mod_self_right, one-le-pow, zero-div, zero-mod, mod-one, pow-zero}
use lib.Arith.{digits_lt, digits_div, mod-mul}
use Rattle.std.specs.List.{AllByRecursion}
use Rattle.std.proofs.lemmas.List.{length-append, get_or_append_left, get_or-append-add, drop_at, drop-append-le, drop_all, length_push, length-drop, append_assoc, get_or_past, get_or-map, length-map, get_or-set_same}
use Rattle.std.proofs.lemmas.Bool.{cases_lt}
use Rattle.digits.proofs.Every.{all_drop, all_append, all_push, all_at}
use Rattle.digits.specs.Positional.{digits, weighed, unpacked, packed, bits}

-- the first n digits of a row; missing ones are 0
abbrev pub filled : ℕ → List ℕ → List ℕ
filled zero ds = []
filled (suc n) [] = 0 ∷ filled n []
filled (suc n) (d ∷ ds) = d ∷ filled n ds

pub pow_positive : (radix k : ℕ) → 0 < radix → 0 < radix ^ k
pow_positive radix k h = let p = one-le-pow k radix h in omega arith

pub length_digits : (radix k n : ℕ) → length (digits radix k n) ≡ k
length_digits radix zero n = refl
length_digits radix (suc k) n = ap suc (length_digits radix k n)

pub length_unpacked : (radix k : ℕ) (ns : List ℕ) → length (unpacked radix k ns) ≡ length ns * k
length_unpacked radix k [] = sym (zero-mul k)
length_unpacked radix k (n ∷ ns) =
    length-append (digits radix k n) (unpacked radix k ns)
    ∙ ap (λ m. m + length (unpacked radix k ns)) (length_digits radix k n)
    ∙ ap (λ m. k + m) (length_unpacked radix k ns)
    ∙ add_comm k (length ns * k) ∙ sym (suc-mul (length ns) k)

pub getD_digits : (radix k n j : ℕ) → j < k → get_or (digits radix k n) j 0 ≡ n / radix ^ (k - 1 - j) % radix
getD_digits radix zero n j h = absurd (omega arith)
getD_digits radix (suc k) n zero h = let e : suc k - 1 - 0 ≡ k = omega arith in rw e refl
getD_digits radix (suc k) n (suc j) h = let e : suc k - 1 - suc j ≡ k - 1 - j = omega arith in rw e (getD_digits radix k n j (omega arith))

-- digit j of number q
pub getD_unpacked : (radix k : ℕ) (ns : List ℕ) (q j : ℕ) → j < k → q < length ns → get_or (unpacked radix k ns) (q * k + j) 0 ≡ get_or ns q 0 / radix ^ (k - 1 - j) % radix
getD_unpacked radix k [] q j h l = absurd (omega arith)
getD_unpacked radix k (n ∷ ns) zero j h l =
    let e : zero * k + j ≡ j = ap (λ m. m + j) (zero-mul k) ∙ zero-add j in
    let within : j < length (digits radix k n) = rw (length_digits radix k n) h in
    rw e (get_or_append_left (digits radix k n) (unpacked radix k ns) 0 j within ∙ getD_digits radix k n j h)
getD_unpacked radix k (n ∷ ns) (suc q) j h l =
    let e : suc q * k + j ≡ length (digits radix k n) + (q * k + j) = rw (length_digits radix k n, suc-mul q k) (omega arith) in
    rw e (get_or-append-add (digits radix k n) (unpacked radix k ns) (q * k + j) 0 ∙ getD_unpacked radix k ns q j h (omega arith))

-- the digits of a number are those of its remainder
pub digits_of_sum : (radix k a n : ℕ) → 0 < radix → digits radix k (a * radix ^ k + n) ≡ digits radix k n
digits_of_sum radix zero a n r = refl
digits_of_sum radix (suc k) a n r =
    let p = pow_positive radix k r in
    let split : a * radix ^ suc k ≡ (a * radix) * radix ^ k = rw (pow-suc radix k, mul_comm (radix ^ k) radix) (sym (mul_assoc a radix (radix ^ k))) in
    let head : ((a * radix) * radix ^ k + n) / radix ^ k % radix ≡ n / radix ^ k % radix = ap (λ m. m % radix) (mul-add-div_right p (a * radix) n) ∙ mul-add-mod_self_right a radix (n / radix ^ k) in
    rw split (ap (λ d. d ∷ digits radix k ((a * radix) * radix ^ k + n)) head ∙ ap (λ ds. (n / radix ^ k % radix) ∷ ds) (digits_of_sum radix k (a * radix) n r))

-- what digits write fits their number
pub weighed_lt : (radix k : ℕ) (ds : List ℕ) → 0 < radix → AllByRecursion (λ d. d < radix) ds → weighed radix k ds < radix ^ k
weighed_lt radix zero ds r h = pow_positive radix 0 r
weighed_lt radix (suc k) [] r h = pow_positive radix (suc k) r
weighed_lt radix (suc k) (d ∷ ds) r h = rw (pow-suc radix k, mul_comm (radix ^ k) radix) (digits_lt h.0 (weighed_lt radix k ds r h.1))

weighed_nil : (radix k : ℕ) → weighed radix k [] ≡ 0
weighed_nil radix zero = refl
weighed_nil radix (suc k) = refl

-- reading digits gives back what they write
pub digits_weighed : (radix k : ℕ) (ds : List ℕ) → 0 < radix → AllByRecursion (λ d. d < radix) ds → digits radix k (weighed radix k ds) ≡ filled k ds
digits_weighed radix zero ds r h = refl
digits_weighed radix (suc k) [] r h =
    let z : 0 / radix ^ k % radix ≡ 0 = ap (λ m. m % radix) (zero-div (radix ^ k)) ∙ zero-mod radix in
    let e : digits radix k 0 ≡ filled k [] = ap (digits radix k) (sym (weighed_nil radix k)) ∙ digits_weighed radix k [] r tt in
    ap (λ d. d ∷ digits radix k 0) z ∙ ap (λ ds. 0 ∷ ds) e
digits_weighed radix (suc k) (d ∷ ds) r h =
    let w = weighed_lt radix k ds r h.1 in
    let head : (d * radix ^ k + weighed radix k ds) / radix ^ k % radix ≡ d = ap (λ m. m % radix) (digits_div d w) ∙ mod-eq_of_lt h.0 in
    ap (λ e. e ∷ digits radix k (d * radix ^ k + weighed radix k ds)) head
    ∙ ap (λ es. d ∷ es) (digits_of_sum radix k d (weighed radix k ds) r ∙ digits_weighed radix k ds r h.1)

-- writing the digits of a number gives it back, up to what they cannot hold
pub weighed_digits : (radix k n : ℕ) (rest : List ℕ) → 0 < radix → weighed radix k (digits radix k n ++ rest) ≡ n % radix ^ k
weighed_digits radix zero n rest r = rw (pow-zero radix) (sym (mod-one n))
weighed_digits radix (suc k) n rest r =
    ap (λ m. n / radix ^ k % radix * radix ^ k + m) (weighed_digits radix k n rest r)
    ∙ sym (mod-mul n r (pow_positive radix k r)) ∙ ap (λ m. n % m) (mul_comm radix (radix ^ k) ∙ sym (pow-suc radix k))

-- no digits make zeros
pub packed_nil : (radix k count : ℕ) → packed radix k count [] ≡ replicate count 0
packed_nil radix k zero = refl
packed_nil radix k (suc count) =
    ap (λ n. n ∷ packed radix k count (drop k [])) (weighed_nil radix k)
    ∙ ap (λ ns. 0 ∷ ns) (ap (packed radix k count) (drop_all k [] (omega arith)) ∙ packed_nil radix k count)

pub length_packed : (radix k count : ℕ) (ds : List ℕ) → length (packed radix k count ds) ≡ count
length_packed radix k zero ds = refl
length_packed radix k (suc count) ds = ap suc (length_packed radix k count (drop k ds))

pub packed_lt : (radix k count : ℕ) (ds : List ℕ) → 0 < radix → AllByRecursion (λ d. d < radix) ds → AllByRecursion (λ n. n < radix ^ k) (packed radix k count ds)
packed_lt radix k zero ds r h = tt
packed_lt radix k (suc count) ds r h = (weighed_lt radix k ds r h, packed_lt radix k count (drop k ds) r (all_drop (λ d. d < radix) k ds h))

pub unpacked_lt : (radix k : ℕ) (ns : List ℕ) → 0 < radix → AllByRecursion (λ d. d < radix) (unpacked radix k ns)
unpacked_lt radix k [] r = tt
unpacked_lt radix k (n ∷ ns) r = all_append (λ d. d < radix) (digits radix k n) (unpacked radix k ns) (digits_lt_radix k) (unpacked_lt radix k ns r)
  where
    digits_lt_radix : (j : ℕ) → AllByRecursion (λ d. d < radix) (digits radix j n)
    digits_lt_radix zero = tt
    digits_lt_radix (suc j) = (mod-lt (n / radix ^ j) r, digits_lt_radix j)

filled_add : (m n : ℕ) (ds : List ℕ) → filled (m + n) ds ≡ filled m ds ++ filled n (drop m ds)
filled_add zero n ds = rw (zero-add n) refl
filled_add (suc m) n [] = rw (suc-add m n) (ap (λ ds. 0 ∷ ds) (filled_add m n [] ∙ ap (λ ds. filled m [] ++ filled n ds) (drop_all m [] (omega arith))))
filled_add (suc m) n (d ∷ ds) = rw (suc-add m n) (ap (λ es. d ∷ es) (filled_add m n ds))

-- a row that is long enough is only filled up with zeros
pub filled_is : (n : ℕ) (ds : List ℕ) → length ds ≤ n → filled n ds ≡ ds ++ replicate (n - length ds) 0
filled_is zero [] h = refl
filled_is zero (d ∷ ds) h = absurd (omega arith)
filled_is (suc n) [] h =
    let e : suc n - 0 ≡ suc (n - 0) = omega arith in
    rw e (ap (λ (es : List ℕ). 0 ∷ es) (filled_is n [] (omega arith)))
filled_is (suc n) (d ∷ ds) h = let e : suc n - suc (length ds) ≡ n - length ds = omega arith in rw e (ap (λ es. d ∷ es) (filled_is n ds (omega arith)))

-- unpacking what was packed gives the digits, filled up with zeros
pub unpacked_packed : (radix k count : ℕ) (ds : List ℕ) → 0 < radix → AllByRecursion (λ d. d < radix) ds → unpacked radix k (packed radix k count ds) ≡ filled (count * k) ds
unpacked_packed radix k zero ds r h = rw (zero-mul k) refl
unpacked_packed radix k (suc count) ds r h =
    let e : suc count * k ≡ k + count * k = suc-mul count k ∙ add_comm (count * k) k in
    ap (λ front. front ++ unpacked radix k (packed radix k count (drop k ds))) (digits_weighed radix k ds r h)
    ∙ ap (λ back. filled k ds ++ back) (unpacked_packed radix k count (drop k ds) r (all_drop (λ d. d < radix) k ds h))
    ∙ sym (filled_add k (count * k) ds) ∙ ap (λ n. filled n ds) (sym e)

-- packing what was unpacked gives the numbers, if each fits its digits
pub packed_unpacked : (radix k : ℕ) (ns : List ℕ) (rest : List ℕ) → 0 < radix → AllByRecursion (λ n. n < radix ^ k) ns → packed radix k (length ns) (unpacked radix k ns ++ rest) ≡ ns
packed_unpacked radix k [] rest r h = refl
packed_unpacked radix k (n ∷ ns) rest r h =
    let whole = append_assoc (digits radix k n) (unpacked radix k ns) rest in
    let head : weighed radix k (digits radix k n ++ (unpacked radix k ns ++ rest)) ≡ n = weighed_digits radix k n (unpacked radix k ns ++ rest) r ∙ mod-eq_of_lt h.0 in
    let tail : drop k (digits radix k n ++ (unpacked radix k ns ++ rest)) ≡ unpacked radix k ns ++ rest = drop_at (digits radix k n) (unpacked radix k ns ++ rest) k (length_digits radix k n) in
    ap (packed radix k (suc (length ns))) whole
    ∙ ap (λ m. m ∷ packed radix k (length ns) (drop k (digits radix k n ++ (unpacked radix k ns ++ rest)))) head
    ∙ ap (λ ms. n ∷ ms) (ap (packed radix k (length ns)) tail ∙ packed_unpacked radix k ns rest r h.1)

-- one more digit within the number
weighed_push : (radix k : ℕ) (ds : List ℕ) (d : ℕ) → length ds < k → weighed radix k (ds ++ d ∷ []) ≡ weighed radix k ds + d * radix ^ (k - 1 - length ds)
weighed_push radix zero ds d h = absurd (omega arith)
weighed_push radix (suc k) [] d h =
    let e : suc k - 1 - 0 ≡ k = omega arith in
    rw (e, weighed_nil radix k) (omega arith)
weighed_push radix (suc k) (c ∷ ds) d h =
    let e : suc k - 1 - suc (length ds) ≡ k - 1 - length ds = omega arith in
    rw e (ap (λ m. c * radix ^ k + m) (weighed_push radix k ds d (omega arith)) ∙ sym (add_assoc (c * radix ^ k) (weighed radix k ds) (d * radix ^ (k - 1 - length ds))))

-- one more digit behind the number
weighed_front : (radix k : ℕ) (ds es : List ℕ) → k ≤ length ds → weighed radix k (ds ++ es) ≡ weighed radix k ds
weighed_front radix zero ds es h = refl
weighed_front radix (suc k) [] es h = absurd (omega arith)
weighed_front radix (suc k) (d ∷ ds) es h = ap (λ m. d * radix ^ k + m) (weighed_front radix k ds es (omega arith))

-- one more digit is added, by its weight, to the number that it falls into
pub packed_push : (radix k count q j : ℕ) (ds : List ℕ) (d : ℕ) → j < k → q < count → length ds ≡ q * k + j
    → packed radix k count (ds ++ d ∷ []) ≡ set (packed radix k count ds) q (get_or (packed radix k count ds) q 0 + d * radix ^ (k - 1 - j))
packed_push radix k zero q j ds d h l e = absurd (omega arith)
packed_push radix k (suc count) zero j ds d h l e =
    let len : length ds ≡ j = e ∙ ap (λ m. m + j) (zero-mul k) ∙ zero-add j in
    let short : length (ds ++ d ∷ []) ≤ k = rw (length_push ds d) (omega arith) in
    let head : weighed radix k (ds ++ d ∷ []) ≡ weighed radix k ds + d * radix ^ (k - 1 - j) = weighed_push radix k ds d (omega arith) ∙ ap (λ m. weighed radix k ds + d * radix ^ (k - 1 - m)) len in
    let tail : drop k (ds ++ d ∷ []) ≡ drop k ds = drop_all k (ds ++ d ∷ []) short ∙ sym (drop_all k ds (omega arith)) in
    ap (λ m. m ∷ packed radix k count (drop k (ds ++ d ∷ []))) head
    ∙ ap (λ ms. (weighed radix k ds + d * radix ^ (k - 1 - j)) ∷ packed radix k count ms) tail
packed_push radix k (suc count) (suc q) j ds d h l e =
    let len : length ds ≡ k + (q * k + j) = e ∙ ap (λ m. m + j) (suc-mul q k) ∙ omega arith in
    let within : k ≤ length ds = omega arith in
    let rest : length (drop k ds) ≡ q * k + j = length-drop k ds ∙ omega arith in
    ap (λ m. m ∷ packed radix k count (drop k (ds ++ d ∷ []))) (weighed_front radix k ds (d ∷ []) within)
    ∙ ap (λ ms. weighed radix k ds ∷ ms) (ap (packed radix k count) (drop-append-le k ds (d ∷ []) within) ∙ packed_push radix k count q j (drop k ds) d h (omega arith) rest)

-- and the number still fits its digits
pub push_fits : (radix k count q j : ℕ) (ds : List ℕ) (d : ℕ) → 0 < radix → j < k → q < count → length ds ≡ q * k + j → AllByRecursion (λ d. d < radix) ds → d < radix
    → get_or (packed radix k count ds) q 0 + d * radix ^ (k - 1 - j) < radix ^ k
push_fits radix k count q j ds d r j_fits q_fits long small d_small =
    let next = packed radix k count (ds ++ d ∷ []) in
    let all = packed_lt radix k count (ds ++ d ∷ []) r (all_push (λ d. d < radix) ds d small d_small) in
    let within : q < length next = rw (length_packed radix k count (ds ++ d ∷ [])) q_fits in
    let one : get_or next q 0 < radix ^ k = all_at (λ n. n < radix ^ k) next q 0 within all in
    let within_before : q < length (packed radix k count ds) = rw (length_packed radix k count ds) q_fits in
    let put = get_or-set_same (packed radix k count ds) q (get_or (packed radix k count ds) q 0 + d * radix ^ (k - 1 - j)) 0 within_before in
    let same = ap (λ row. get_or row q 0) (packed_push radix k count q j ds d j_fits q_fits long) in
    rw (same ∙ put) at one

-- element i of a row that holds k digits of each number
module _ (radix k : ℕ) (ns : List ℕ) (i q j : ℕ) (at : q * k + j ≡ i) (j_fits : j < k) where
  pub digit_at : q < length ns → get_or (unpacked radix k ns) i 0 ≡ get_or ns q 0 / radix ^ (k - 1 - j) % radix
  digit_at h = rw (← at) (getD_unpacked radix k ns q j j_fits h)

  pub digit_past : length ns ≤ q → get_or (unpacked radix k ns) i 0 ≡ 0
  digit_past h =
      let p : length ns * k ≤ q * k = mul-le-mul_right k h in
      let l = length_unpacked radix k ns in
      get_or_past (unpacked radix k ns) i 0 (omega arith)

pub bit_is : (bytes : List ℕ) (i : ℕ) → get_or (bits bytes) i false ≡ eqb (get_or (unpacked 2 8 bytes) i 0) 1
bit_is bytes i =
    ⊎_elim
    (λ h. get_or-map (λ d. eqb d 1) (unpacked 2 8 bytes) i 0 false h)
    (λ h.
    let l = length-map (unpacked 2 8 bytes) (λ d. eqb d 1) in
    get_or_past (bits bytes) i false (omega arith) ∙ sym (ap (λ d. eqb d 1) (get_or_past (unpacked 2 8 bytes) i 0 h)))
    (cases_lt i (length (unpacked 2 8 bytes)))

-- the weights of five trits are the powers of 3
pub trit_weight : (j : ℕ) → j < 5 → get_or (81 ∷ 27 ∷ 9 ∷ 3 ∷ 1 ∷ []) j 0 ≡ 3 ^ (5 - 1 - j)
trit_weight zero h = refl
trit_weight (suc zero) h = refl
trit_weight (suc (suc zero)) h = refl
trit_weight (suc (suc (suc zero))) h = refl
trit_weight (suc (suc (suc (suc zero)))) h = refl
trit_weight (suc (suc (suc (suc (suc j))))) h = absurd (omega arith)

pub length_bits : (bytes : List ℕ) → length (bits bytes) ≡ 8 * length bytes
length_bits bytes = length-map (unpacked 2 8 bytes) (λ d. eqb d 1) ∙ length_unpacked 2 8 bytes ∙ mul_comm (length bytes) 8
