-- Bits, most significant first. A bit is a Bool, so that no list of bits is malformed.
use Rattle.std.specs.Prelude.{ℕ, zero, suc, ◌+◌, ◌-◌, ◌*◌, ◌/◌, ◌%◌, ◌^◌, List, [], ◌∷◌, ◌++◌, Bool, true, false, take, drop, eqb}

-- a test as a number, and the number of a bit
abbrev pub one : Bool → ℕ
one true = 1
one false = 0

-- whether a number is odd
abbrev pub odd : ℕ → Bool
odd n = eqb (n % 2) 1

-- the w low bits of n, most significant first
unfoldable pub bits_of : ℕ → ℕ → List Bool
bits_of zero n = []
bits_of (suc w) n = odd (n / 2 ^ w) ∷ bits_of w n

-- the number that bits spell, after acc
unfoldable pub num_from : ℕ → List Bool → ℕ
num_from acc [] = acc
num_from acc (b ∷ bs) = num_from (acc * 2 + one b) bs

unfoldable pub num : List Bool → ℕ
num bs = num_from 0 bs

-- the bits of bytes
unfoldable pub bits : List ℕ → List Bool
bits [] = []
bits (x ∷ xs) = bits_of 8 x ++ bits xs

-- whether all bits are zero
unfoldable pub zeros : List Bool → Bool
zeros [] = true
zeros (true ∷ bs) = false
zeros (false ∷ bs) = zeros bs

-- how many bits lie between the bit offset at and the next whole byte
unfoldable pub gap : ℕ → ℕ
gap at = (8 - at % 8) % 8

-- inner: the field of w bits at the bit offset at
unfoldable pub field : List ℕ → ℕ → ℕ → ℕ
field s at w = num (take w (drop at (bits s)))
