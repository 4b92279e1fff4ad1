-- At most seven bytes read from the top byte down are the number that they stand for, and leave the top byte of a word free.
use Rattle.std.proofs.Common.{◌≡◌, ℕ, suc, ◌+◌, ◌*◌, ◌^◌, ◌<◌, ◌≤◌, List, [], ◌∷◌, fold, length, get_or, reverse, refl, ap, ◌∙◌, arith}
use Rattle.std.proofs.lemmas.List.{get_or_past, reverse-append}
use Rattle.std.proofs.lemmas.List.Sums.{fold-append}
use Rattle.siphash.specs.SipHash.{little_endian, read_byte}

-- numbers that are bytes, and past the end 0
abbrev Small : List ℕ → Type 0
Small bs = (i : ℕ) → get_or bs i 0 < 256

below : (k : ℕ) (bs : List ℕ) → length bs ≤ k → get_or bs k 0 ≡ 0
below k bs h = get_or_past bs k 0 h

pub few_are_low : (bs : List ℕ) → Small bs → length bs ≤ 7 → little_endian bs < 2 ^ 56
few_are_low bs small h =
    let none = below 7 bs h in
    omega (arith, small 0, small 1, small 2, small 3, small 4, small 5, small 6)

fewer_are_lower : (bs : List ℕ) → Small bs → length bs ≤ 6 → little_endian bs < 2 ^ 48
fewer_are_lower bs small h =
    let none = below 7 bs (omega arith) in
    let none' = below 6 bs h in
    omega (arith, small 0, small 1, small 2, small 3, small 4, small 5)

one_more : (b : ℕ) (bs : List ℕ) → length bs ≤ 7 → little_endian (b ∷ bs) ≡ little_endian bs * 256 + b
one_more b bs h = let none = below 7 bs h in omega arith

read_next : (n b : ℕ) → n < 2 ^ 48 → b < 256 → read_byte n b ≡ n * 256 + b
read_next n b low small = omega arith

pub reads_down : (bs : List ℕ) → Small bs → length bs ≤ 7 → fold read_byte 0 (reverse bs) ≡ little_endian bs
reads_down [] small h = refl
reads_down (b ∷ bs) small h =
    let rest : length bs ≤ 6 = omega arith in
    let small_rest : Small bs = λ i. small (suc i) in
    let read = reads_down bs small_rest (omega arith) in
    ap (fold read_byte 0) (reverse-append (b ∷ []) bs) ∙ fold-append read_byte 0 (reverse bs) (b ∷ []) ∙ ap (λ n. read_byte n b) read
    ∙ read_next (little_endian bs) b (fewer_are_lower bs small_rest rest) (small 0) ∙ omega (arith, one_more b bs (omega arith))
