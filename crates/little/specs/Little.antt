-- Document 01: "All fields are little-endian". Numbers in a list of bytes, at any width; what a store leaves in a lent buffer; records that
-- stand one after another. All of it is the library's interface. Which number or record stands where is the matter of those who cite this file.
use Rattle.std.specs.Prelude.{ℕ, zero, suc, ◌+◌, ◌*◌, ◌/◌, ◌%◌, List, [], ◌∷◌, ◌++◌, get_or}
use Rattle.std.proofs.lemmas.List.Edits.{sets}

-- the number that the `width` bytes from index `at` on hold, lowest byte first (a byte past the end counts 0)
unfoldable pub number_at : List ℕ → ℕ → ℕ → ℕ
number_at s at zero = 0
number_at s at (suc width) = get_or s at 0 + 256 * number_at s (suc at) width

-- the lowest `width` bytes of a number, lowest first
unfoldable pub number_bytes : ℕ → ℕ → List ℕ
number_bytes zero v = []
number_bytes (suc width) v = v % 256 ∷ number_bytes width (v / 256)

-- a list with `vs` stored from index `at` on: `take at l ++ vs ++ drop (at + length vs) l` where that fits (`put_is`)
unfoldable pub put {ℓ} : {A : Type ℓ} → List A → ℕ → List A → List A
put l at vs = sets l at vs

-- the records of several things, one after another
unfoldable pub records : {A : Type 0} → (A → List ℕ) → List A → List ℕ
records f [] = []
records f (x ∷ xs) = f x ++ records f xs

-- `n` things read from records of `width` bytes each, the first at index `at`
unfoldable pub records_at : {A : Type 0} → (List ℕ → ℕ → A) → ℕ → List ℕ → ℕ → ℕ → List A
records_at read width s at zero = []
records_at read width s at (suc n) = read s at ∷ records_at read width s (at + width) n
