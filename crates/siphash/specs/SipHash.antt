-- SipHash-2-4 (Aumasson and Bernstein, 2012) over numbers: a byte is below 256, a word below 2 ^ 64.
use Rattle.std.specs.Prelude.{ℕ, ◌+◌, ◌-◌, ◌*◌, ◌/◌, ◌%◌, ◌^◌, List, [], ◌∷◌, fold, length, take, drop, bit_or, bit_xor}
use Rattle.std.specs.Int.{w64, from_le_bytes}
use Rattle.std.specs.Simd.{first_chunks}
use Rattle.siphash.specs.declared.State.{State}

-- The number that at most eight bytes stand for, the least significant byte first.
abbrev pub little_endian : List ℕ → ℕ
little_endian = from_le_bytes w64

-- One byte more below a number of 64 bits.
abbrev pub read_byte : ℕ → ℕ → ℕ
read_byte n b = ((n * 256) % 2 ^ 64 + b) % 2 ^ 64

-- The eight bytes of a word, the least significant byte first.
abbrev pub word_bytes : ℕ → List ℕ
word_bytes w =
    (w % 256) ∷ (w / 2 ^ 8 % 256) ∷ (w / 2 ^ 16 % 256) ∷ (w / 2 ^ 24 % 256) ∷ (w / 2 ^ 32 % 256) ∷ (w / 2 ^ 40 % 256) ∷ (w / 2 ^ 48 % 256) ∷ (w / 2 ^ 56 % 256) ∷ []

-- The sum of two words modulo 2 ^ 64.
abbrev pub add : ℕ → ℕ → ℕ
add x y = (x + y) % 2 ^ 64

-- A word rotated left by k bits.
abbrev pub rotl : ℕ → ℕ → ℕ
rotl x k = bit_or ((x * 2 ^ k) % 2 ^ 64) (x / 2 ^ (64 - k))

-- SipRound: a0 to a3 are the words after its first two additions, b0 and b2 the sums of its last two.
unfoldable pub sip_round : State → State
sip_round s =
    let a0 = add s.v0 s.v1 in
    let a1 = bit_xor (rotl s.v1 13) a0 in
    let a2 = add s.v2 s.v3 in
    let a3 = bit_xor (rotl s.v3 16) a2 in
    let b0 = add (rotl a0 32) a3 in
    let b2 = add a2 a1 in
    record { v0 = b0; v1 = bit_xor (rotl a1 17) b2; v2 = rotl b2 32; v3 = bit_xor (rotl a3 21) b0 }

-- Initialization: the two words of the key, each xored with two of the four constants.
unfoldable pub initialize : List ℕ → State
initialize key =
    let k0 = little_endian (take 8 key) in
    let k1 = little_endian (take 8 (drop 8 key)) in
    record { v0 = bit_xor k0 0x736f6d6570736575; v1 = bit_xor k1 0x646f72616e646f6d; v2 = bit_xor k0 0x6c7967656e657261; v3 = bit_xor k1 0x7465646279746573 }

-- Compression of one word m: v3 ^= m, two rounds, v0 ^= m.
unfoldable pub compress : ℕ → State → State
compress m s =
    let t = sip_round (sip_round (record { v0 = s.v0; v1 = s.v1; v2 = s.v2; v3 = bit_xor s.v3 m })) in
    record { v0 = bit_xor t.v0 m; v1 = t.v1; v2 = t.v2; v3 = t.v3 }

-- Compression of the message's whole words, eight bytes each.
abbrev pub compress_words : List ℕ → State → State
compress_words bs s = fold (λ t word. compress (little_endian word) t) s (first_chunks 8 (length bs / 8) bs)

-- The last word: the bytes that fill no whole word, then zeros, and in the top byte the message's length modulo 256.
unfoldable pub last_word : List ℕ → ℕ
last_word bs = (length bs % 256) * 2 ^ 56 + little_endian (drop (length bs / 8 * 8) bs)

-- Finalization: v2 ^= 0xff, four rounds, and the xor of the four words.
unfoldable pub finalize : State → ℕ
finalize s =
    let t = sip_round (sip_round (sip_round (sip_round (record { v0 = s.v0; v1 = s.v1; v2 = bit_xor s.v2 0xff; v3 = s.v3 })))) in
    bit_xor (bit_xor t.v0 t.v1) (bit_xor t.v2 t.v3)

-- SipHash-2-4 of a message under a key of 16 bytes.
unfoldable pub siphash : List ℕ → List ℕ → ℕ
siphash key message =
    finalize (compress (last_word message) (compress_words message (initialize key)))
