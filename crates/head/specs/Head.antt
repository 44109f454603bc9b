-- The head block of a journal volume: count 1 and the group number (four bytes), count n and n places (two bytes each),
-- then zeros; in bytes the lowest comes first.
use Rattle.std.specs.Prelude.{ℕ, zero, suc, ◌+◌, ◌-◌, ◌*◌, ◌/◌, ◌%◌, Bool, true, false, cond, not, ◌&&◌, List, [], ◌∷◌, ◌++◌, length, drop, replicate, ◌==◌, nat_le, nat_lt, slice_index}
use Rattle.std.proofs.Math.Option.{Option, some, none}
use Rattle.disk.specs.Medium.{Block}

pub record Head : Type 0 where
  pub number : ℕ
  pub places : List ℕ

abbrev pub two_bytes : ℕ → List ℕ
two_bytes p = p % 256 ∷ p / 256 % 256 ∷ []

abbrev pub four_bytes : ℕ → List ℕ
four_bytes k = k % 256 ∷ k / 256 % 256 ∷ k / 65_536 % 256 ∷ k / 16_777_216 % 256 ∷ []

abbrev pub place_bytes : List ℕ → List ℕ
place_bytes [] = []
place_bytes (p ∷ ps) = two_bytes p ++ place_bytes ps

-- the two sections
abbrev pub sections : Head → List ℕ
sections h = 1 ∷ four_bytes h.number ++ (length h.places ∷ place_bytes h.places)

unfoldable pub encode : Head → Block
encode h = sections h ++ replicate (512 - length (sections h)) 0

abbrev pub empty_head : ℕ → Head
empty_head k = record { number = k; places = [] }

-- is the place in the list?
abbrev pub holds : ℕ → List ℕ → Bool
holds p [] = false
holds p (x ∷ xs) = cond (x == p) true (holds p xs)

abbrev pub all_below : ℕ → List ℕ → Bool
all_below n [] = true
all_below n (x ∷ xs) = nat_lt x n && all_below n xs

abbrev pub none_twice : List ℕ → Bool
none_twice [] = true
none_twice (x ∷ xs) = not (holds x xs) && none_twice xs

-- a head of a volume with n home blocks
abbrev pub fits : ℕ → Head → Bool
fits n h = nat_lt h.number 4_294_967_296 && (nat_le (length h.places) 8 && (all_below n h.places && none_twice h.places))

abbrev pub same_bytes : List ℕ → List ℕ → Bool
same_bytes [] [] = true
same_bytes [] (y ∷ ys) = false
same_bytes (x ∷ xs) [] = false
same_bytes (x ∷ xs) (y ∷ ys) = x == y && same_bytes xs ys

abbrev pub places_read : ℕ → List ℕ → List ℕ
places_read zero bytes = []
places_read (suc n) bytes = (slice_index bytes 0 + 256 * slice_index bytes 1) ∷ places_read n (drop 2 bytes)

-- what the bytes would say if they were a head
unfoldable pub candidate : Block → Head
candidate b = record {
  number = slice_index b 1 + (256 * slice_index b 2 + (65_536 * slice_index b 3 + 16_777_216 * slice_index b 4));
  places = places_read (slice_index b 5) (drop 6 b);
}

-- the head in a block; nothing where the block is not the encoding of a fitting head
unfoldable pub decode : ℕ → Block → Option Head
decode n b = cond (fits n (candidate b) && same_bytes b (encode (candidate b))) (some (candidate b)) none
