-- A format: which fields a file has, in order, where each may depend on the values before it. Both directions are made from it.
use Rattle.std.specs.Prelude.{ℕ, zero, suc, ◌+◌, ◌/◌, ◌%◌, ◌^◌, List, [], ◌∷◌, ◌++◌, Bool, true, false, ◌&&◌, length, take, drop, replicate, leb, ltb}
use Rattle.packed.specs.Bits.{bits_of, num, bits, zeros, gap}

-- done: the end
-- ask w low bound e f: a field of w bits whose value is at least low and below bound, else the fault e; what follows is f of its value
-- test b e f: f if b holds, else the fault e
-- pad f: zero bits up to the next whole byte, else the fault 9, and then f
pub data Format : Type 0 where
  done : Format
  ask : ℕ → ℕ → ℕ → ℕ → (ℕ → Format) → Format
  test : Bool → ℕ → Format → Format
  pad : Format → Format

-- f, and then g
unfoldable pub then : Format → Format → Format
then done g = g
then (ask w low bound e f) g = ask w low bound e (λ v. then (f v) g)
then (test b e f) g = test b e (then f g)
then (pad f) g = pad (then f g)

-- f so many times
unfoldable pub times : ℕ → Format → Format
times zero f = done
times (suc n) f = then f (times n f)

-- a file ends with zero bits up to a whole byte
unfoldable pub whole : Format → Format
whole f = then f (pad done)

-- what one pass over a part of a file gives: what it made and what it left, or a fault
pub data Got (A B : Type 0) : Type 0 where
  got : List A → List B → Got A B
  fault : ℕ → Got A B

abbrev pub pick : {A : Type 0} → Bool → A → A → A
pick true a b = a
pick false a b = b

abbrev pub push : {A B : Type 0} → List A → Got A B → Got A B
push xs (got ys r) = got (xs ++ ys) r
push xs (fault e) = fault e

unfoldable pub within : ℕ → ℕ → ℕ → Bool
within low bound v = leb low v && ltb v bound

-- bits to fields: the bits up to a whole byte are counted back from the end of the file, which is whole bytes
unfoldable pub scan : Format → List Bool → Got ℕ Bool
scan done bs = got [] bs
scan (ask w low bound e f) bs =
    pick (leb w (length bs))
    (pick (within low bound (num (take w bs))) (push (num (take w bs) ∷ []) (scan (f (num (take w bs))) (drop w bs))) (fault e))
    (fault 2)
scan (test b e f) bs = pick b (scan f bs) (fault e)
scan (pad f) bs = pick (zeros (take (length bs % 8) bs)) (scan f (drop (length bs % 8) bs)) (fault 9)

-- fields to bits, from the bit offset at; a value that its field can't hold is out of its range
unfoldable pub lay : Format → ℕ → List ℕ → Got Bool ℕ
lay done at ws = got [] ws
lay (ask w low bound e f) at [] = fault 2
lay (ask w low bound e f) at (v ∷ ws) =
    pick (within low bound v && ltb v (2 ^ w)) (push (bits_of w v) (lay (f v) (at + w) ws)) (fault e)
lay (test b e f) at ws = pick b (lay f at ws) (fault e)
lay (pad f) at ws = push (replicate (gap at) false) (lay f (at + gap at) ws)

-- what a whole file gives, where nothing may be left over
pub data Result (A : Type 0) : Type 0 where
  ok : List A → Result A
  bad : ℕ → Result A

abbrev pub ended : {A B : Type 0} → Got A B → Result A
ended (got xs []) = ok xs
ended (got xs (y ∷ ys)) = bad 9
ended (fault e) = bad e

unfoldable pub bytes_of : ℕ → List Bool → List ℕ
bytes_of zero bs = []
bytes_of (suc k) bs = num (take 8 bs) ∷ bytes_of k (drop 8 bs)

abbrev pub in_bytes : Result Bool → Result ℕ
in_bytes (ok bs) = ok (bytes_of (length bs / 8) bs)
in_bytes (bad e) = bad e

-- the content of the bytes of a file, and the bytes of a content
unfoldable pub decode : Format → List ℕ → Result ℕ
decode f s = ended (scan (whole f) (bits s))

unfoldable pub encode : Format → List ℕ → Result ℕ
encode f ws = in_bytes (ended (lay (whole f) 0 ws))
