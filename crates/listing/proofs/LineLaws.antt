-- The promise of a line case by case, a law for each answer of the code. The crate's own. Assumes nothing.
use Prim.Native.Nat.{ℕ, ◌≤◌, ◌<◌}
use mathlib.Core.Path.{◌≡◌, refl, sym}
use mathlib.Core.Bool.{Bool, true, false, cond, ◌&&◌}
use mathlib.Core.List.{List, map}
use native.Mathlib.Nat.{zero-add}
use native.Mathlib.Omega.{arith}
use borrow.Author.Tests.{le-leb, lt-leb}
use lib.ListN.{length, get_or, replicate, length-replicate, length-map, take}
use Rattle.std.proofs.Common.{Option, Some, None}
use Rattle.little.proofs.Put.{put-at, put-length, put-take-front}
use Rattle.rules.proofs.ListLaws.{every-not, false-intro}
use Rattle.fields.specs.Fields.{first_field, later_fields, value}
use Rattle.listing.specs.Listing.{word_of, most_at, takes_count, fitting, plain_line, places, call_line, line_rules, line_of}
use Rattle.listing.specs.Inner.{gathered, Fit, taken_line}
use Rattle.listing.specs.declared.Call.TheVariants.{Bad}
use Rattle.listing.specs.declared.Word.{Word}
use Rattle.listing.proofs.WordLaws.{takes-few}
use Rattle.listing.proofs.CallLaws.{call_line-same}
use Rattle.listing.proofs.GatherLaws.{Gathered, all_fit, too_many, unfit, gathered-cases, fitting-at}

-- numbers stand in their places
module _ (fs : List (List ℕ)) (few : length fs ≤ 34) where
  pub places-front : take (length fs) (places (map value fs)) ≡ map value fs
  places-front =
      let n : length (map value fs) ≡ length fs = length-map fs value in
      put-take-front (replicate 34 0) (length fs) (map value fs) n (omega (arith, length-replicate {A = ℕ} 34 0))

  pub places-at : (k : ℕ) → k < length fs → get_or (places (map value fs)) k 0 ≡ get_or (map value fs) k 0
  places-at k h =
      let n : length (map value fs) ≡ length fs = length-map fs value in
      let q = put-at (replicate 34 0) 0 (map value fs) k 0 (omega (arith, length-replicate {A = ℕ} 34 0)) (omega arith) in
      rw zero-add at q

-- each of them fits
pub values-fit : (w : Word) (fs : List (List ℕ)) → fitting w 0 fs ≡ true → (k : ℕ) → k < length fs → get_or (map value fs) k 0 ≤ most_at w k
values-fit w fs fit k h = rw zero-add at (fitting-at w 0 fs k fit h)

-- the rules of a line that are broken
line-breaks : (s : List ℕ) (k : ℕ) → get_or (line_rules s (word_of (first_field s)) (later_fields s)) k true ≡ false → plain_line Bad ≡ line_of s
unfolding line_of
line-breaks s k e = rw (every-not (line_rules s (word_of (first_field s)) (later_fields s)) k e)

pub line-long : (s : List ℕ) → 1023 < length s → plain_line Bad ≡ line_of s
line-long s h = line-breaks s 0 (lt-leb (length s) 1023 h)

-- what the code knows once it has read the word and the numbers
module _ (s first : List ℕ) (fs : List (List ℕ)) (w : Word) (vs : List ℕ) (f : first ≡ first_field s) (l : fs ≡ later_fields s) (e : w ≡ word_of first)
    (v : vs ≡ (gathered w 0 (replicate 34 0) fs).values) where
  word-is : w ≡ word_of (first_field s)
  word-is = rw f at e

  known : (r : Option ℕ) → r ≡ (gathered w 0 (replicate 34 0) fs).answer → Gathered w 0 (replicate 34 0) (later_fields s) r vs
  known r g = rw (g, v, l) (gathered-cases w 0 (replicate 34 0) (later_fields s) (omega arith))

  -- the word's tests, of the word that was read
  untaken : takes_count w (length (later_fields s)) ≡ false → plain_line Bad ≡ line_of s
  untaken n = line-breaks s 1 (rw word-is at n)

  pub line-unread : None ≡ (gathered w 0 (replicate 34 0) fs).answer → plain_line Bad ≡ line_of s
  line-unread g = go None refl (known None g)
    where
      go : (r : Option ℕ) → r ≡ None → Gathered w 0 (replicate 34 0) (later_fields s) r vs → plain_line Bad ≡ line_of s
      go r n (all_fit few fit q v) = cc
      go r n (too_many many q) = untaken (false-intro (takes_count w (length (later_fields s))) (λ t. omega (arith, takes-few w (length (later_fields s)) t)))
      go r n (unfit bad q) = line-breaks s 2 (rw word-is at bad)

  module _ (n : ℕ) (some : Some n ≡ (gathered w 0 (replicate 34 0) fs).answer) where
    -- the numbers are there
    record There : Type 0 where
      pub count : n ≡ length (later_fields s)
      pub values : vs ≡ places (map value (later_fields s))
      pub few : length (later_fields s) ≤ 34
      pub fit : fitting w 0 (later_fields s) ≡ true

    there : There
    there = go (Some n) refl (known (Some n) some)
      where
        go : (r : Option ℕ) → r ≡ Some n → Gathered w 0 (replicate 34 0) (later_fields s) r vs → There
        go r h (all_fit few fit q v) = let z = rw zero-add at q in record { count = cc; values = v; few = rw zero-add at few; fit = fit }
        go r h (too_many many q) = cc
        go r h (unfit bad q) = cc

    few : n ≤ 34
    few = let t = there in omega arith

    pub line-few : n ≤ length vs
    line-few = let t = there in rw t.values (omega (arith, put-length (replicate 34 0) 0 (map value (later_fields s)), length-replicate {A = ℕ} 34 0, few))

    numbers : take n vs ≡ map value (later_fields s)
    numbers = rw (there.count, there.values) (places-front (later_fields s) there.few)

    pub line_fit : Fit w (take n vs)
    line_fit = rw numbers (λ k h. values-fit w (later_fields s) there.fit k (rw (length-map (later_fields s) value) at h))

    pub line_read : length s ≤ 1023 → taken_line w (take n vs) ≡ line_of s
    unfolding line_of
    line_read h =
        rw (numbers, length-map (later_fields s) value, ← word-is, le-leb (length s) 1023 h, there.fit)
        (go (takes_count w (length (later_fields s))) refl)
      where
        go : (t : Bool) → takes_count w (length (later_fields s)) ≡ t → cond t (call_line w (length (later_fields s)) (map value (later_fields s))) (plain_line Bad) ≡ cond (t && true) (call_line w (length (later_fields s)) (places (map value (later_fields s)))) (plain_line Bad)
        go true e = sym (call_line-same w (length (later_fields s)) (places (map value (later_fields s))) (map value (later_fields s)) e (places-at (later_fields s) there.few))
        go false e = refl
