-- One encoding: the readers and the writer rest on one description of the fields, so that what is written is read and what is read is written.
-- Assumes nothing.
use Prim.Native.Nat.{ℕ, zero, suc, ◌+◌, ◌-◌, ◌^◌, ◌≤◌, ◌<◌}
use mathlib.Core.Path.{◌≡◌, refl, sym, ap, ◌∙◌}
use mathlib.Core.Logic.{◌⊎◌, inl, inr}
use mathlib.Core.Bool.{Bool, true, false, ◌&&◌, cond}
use mathlib.Core.List.{List, [], ◌∷◌, ◌++◌, append_assoc, append-nil}
use native.Mathlib.Omega.{arith}
use lib.Dec.{eqb}
use lib.ListN.{length, get_or, take, drop, replicate}
use lib.Seq.{take-add, take_all, drop-drop, drop_at}
use borrow.Author.Tests.{le-leb, eq-eqb, ne_eqb, leb-true, eqb-true}
use Rattle.little.specs.Little.{number_at, number_bytes, put, records, records_at}
use Rattle.little.proofs.Put.{put-take-front}
use Rattle.little.proofs.Numbers.{number_at-here, number_at-next, number_at-bound, number_bytes-number_at}
use Rattle.little.proofs.Records.{records_at-here, records_at-at, records_at-length, records-records_at}
use Rattle.rules.specs.Lists.{all}
use Rattle.rules.specs.Refusals.{refusal}
use Rattle.rules.specs.Settings.{settings_ok, second_limit}
use Rattle.rules.specs.Device.{cleaned}
use Rattle.rules.specs.Demands.{Bytes}
use Rattle.rules.specs.declared.Second.{Second}
use Rattle.std.specs.declared.option.Option.{Option}
use Rattle.std.specs.declared.option.Option.TheVariants.{None, Some}
use Rattle.rules.specs.declared.Settings.{Settings}
use Rattle.rules.proofs.SoundLaws.{cleaned-ok}
use Rattle.rules.proofs.RefusalLaws.{Passed, passes-Passed, refusal-none}
use Rattle.settings.proofs.SettingsLaws.{settings_ok-at, settings_ok-count, settings_ok-greatest, settings_ok-limit, settings_ok-shelf, settings_ok-other}
use Rattle.settings_file.specs.File.{file_size, mark, mark_ok, version_in, rule_in, identifier_at, identifiers_in, second_of, second_place, second_in, shelf_in, settings_in, spare_ok, known_version, new_read, identifier_bytes, common_bytes, head_bytes, second_bytes, file_bytes, holds, write_tests, file_written}
use Rattle.settings_file.specs.Statements.{Fits, Begins, Laid, Layout, OneEncoding}
use Rattle.settings_file.specs.declared.Read.{Read}
use Rattle.settings_file.proofs.FieldLaws.{identifier_bytes-length, head_bytes-length, file_bytes-one, file_bytes-two, cleaned-length, file_bytes-length, holds-one}
use Rattle.settings_file.proofs.ReaderLaws.{marked, Accepted, accepted, new_read-whole}

-- ---- writing what was read

-- zeros
zeros : (xs : List ℕ) → all (λ y. eqb y 0) xs ≡ true → xs ≡ replicate (length xs) 0
zeros [] e = refl
zeros (y ∷ xs) e = go (eqb y 0) refl (zeros xs) e
  where
    go : (b : Bool) → eqb y 0 ≡ b → (all (λ z. eqb z 0) xs ≡ true → xs ≡ replicate (length xs) 0) → (b && all (λ z. eqb z 0) xs) ≡ true
        → y ∷ xs ≡ 0 ∷ replicate (length xs) 0
    go true h ih k = let z : y ≡ 0 = eqb-true y 0 h in let w : xs ≡ replicate (length xs) 0 = ih k in cc
    go false h ih k = let z : ◌≡◌ {A = ℕ} 0 1 = cc in absurd (omega arith)

-- places whose spare ones hold zeros are what cleaning makes of them
spare-clean : (n : ℕ) (xs : List ℕ) → all (λ y. eqb y 0) (drop n xs) ≡ true → take n xs ++ replicate (length xs - n) 0 ≡ xs
spare-clean zero xs e = let z : length xs - 0 ≡ length xs = omega arith in rw z (sym (zeros xs e))
spare-clean (suc n) [] e = let z : 0 - suc n ≡ 0 = omega arith in rw z
spare-clean (suc n) (x ∷ xs) e =
    let z : suc (length xs) - suc n ≡ length xs - n = omega arith in
    rw z (ap (λ ys. x ∷ ys) (spare-clean n xs e))

bit-back : (k : ℕ) → k ≤ 1 → cond (eqb k 1) 1 0 ≡ k
bit-back zero h = refl
bit-back (suc zero) h = refl
bit-back (suc (suc k)) h = absurd (omega arith)

clean_back : (s : Settings) → spare_ok s ≡ true → cleaned s ≡ s
unfolding spare_ok
clean_back s e = rw (spare-clean s.count s.identifiers e)

-- the two numbers of a second manager
module _ (manager id limit : ℕ) where
  place-back : second_place manager (second_of manager id limit) ≡ id
  unfolding second_of
  place-back = go (eqb id manager) refl (eqb limit 0)
    where
      go : (t : Bool) → eqb id manager ≡ t → (u : Bool) → second_place manager (cond (t && u) None (Some (record { id = id; limit = limit }))) ≡ id
      go true e true = sym (eqb-true id manager e)
      go true e false = refl
      go false e u = refl

  limit-back : second_limit (second_of manager id limit) ≡ limit
  unfolding second_of
  limit-back = go (eqb id manager) (eqb limit 0) refl
    where
      go : (t u : Bool) → eqb limit 0 ≡ u → second_limit (cond (t && u) None (Some (record { id = id; limit = limit }))) ≡ limit
      go true true e = sym (eqb-true limit 0 e)
      go true false e = refl
      go false u e = refl

module _ (x : List ℕ) (b : Bytes x) where
  -- a field before bytes of the file
  field : (at w n : ℕ) → at + w ≤ length x → number_bytes w (number_at x at w) ++ take n (drop (at + w) x) ≡ take (w + n) (drop at x)
  field at w n h = rw (number_bytes-number_at x b at w h, take-add w n (drop at x), drop-drop w at x)

  identifier-back : (at : ℕ) → at + 2 ≤ length x → identifier_bytes (identifier_at x at) ≡ take 2 (drop at x)
  identifier-back at h = number_bytes-number_at x b at 2 h

  places-back : 29 ≤ length x → records identifier_bytes (identifiers_in x) ≡ take 16 (drop 13 x)
  places-back h = records-records_at identifier_bytes identifier_at 2 x identifier-back 13 8 h

  common-back : (v : ℕ) → 29 ≤ length x → rule_in x ≤ 1 → common_bytes (settings_in v x) ≡ take 24 (drop 5 x)
  common-back v h r =
      rw (
        append_assoc,
        append_assoc,
        append_assoc,
        append_assoc,
        append_assoc,
        bit-back (rule_in x) r,
        places-back h,
        field 12 1 16 (omega arith),
        field 10 2 17 (omega arith),
        field 9 1 19 (omega arith),
        field 8 1 20 (omega arith),
        field 7 1 21 (omega arith),
        field 5 2 22 (omega arith),
      )

  head-back : 29 ≤ length x → rule_in x ≤ 1 → mark_ok x ≡ true → head_bytes (version_in x) (settings_in (version_in x) x) ≡ take 29 x
  head-back h r m =
      ap (λ f. mark ++ (number_bytes 2 (version_in x) ++ f)) (common-back (version_in x) h r)
      ∙ ap (λ f. mark ++ f) (field 3 2 24 (omega arith))
      ∙ ap (λ f. f ++ take 26 (drop 3 x)) (sym (marked x (omega arith) m))
      ∙ sym (take-add 3 26 x)

  second_back : (v : ℕ) → v ≡ 2 → 35 ≤ length x → second_bytes (settings_in v x) ≡ take 6 (drop 29 x)
  unfolding second_in shelf_in
  second_back v two h =
      rw (
        two,
        place-back (number_at x 5 2) (number_at x 29 2) (number_at x 31 2),
        limit-back (number_at x 5 2) (number_at x 29 2) (number_at x 31 2),
        number_bytes-number_at x b 33 2 (omega arith),
        field 31 2 2 (omega arith),
        field 29 2 4 (omega arith),
      )

  -- the bytes of the settings of an accepted file are the file
  file-back : Accepted x → file_bytes (version_in x) (settings_in (version_in x) x) ≡ x
  file-back a = go a.version
    where
      s : Settings
      s = settings_in (version_in x) x

      go : (version_in x ≡ 1) ⊎ (version_in x ≡ 2) → file_bytes (version_in x) s ≡ x
      go (inl one) =
          let n : length x ≡ 29 = a.size ∙ rw one in
          file_bytes-one (version_in x) s one
          ∙ ap (head_bytes (version_in x)) (clean_back s a.spare)
          ∙ head-back (omega arith) a.rule a.marked
          ∙ take_all 29 x (omega arith)
      go (inr two) =
          let n : length x ≡ 35 = a.size ∙ rw two in
          file_bytes-two (version_in x) s (λ z. omega arith)
          ∙ ap (λ c. head_bytes (version_in x) c ++ second_bytes s) (clean_back s a.spare)
          ∙ ap (λ h. h ++ second_bytes s) (head-back (omega arith) a.rule a.marked)
          ∙ ap (λ h. take 29 x ++ h) (second_back (version_in x) two (omega arith))
          ∙ sym (take-add 29 6 x)
          ∙ take_all 35 x (omega arith)

-- a file's version holds its settings
holds-back : (v : ℕ) (x : List ℕ) → (v ≡ 1) ⊎ (v ≡ 2) → holds v (settings_in v x) ≡ true
unfolding holds second_in shelf_in
holds-back v x (inl one) = rw one
holds-back v x (inr two) = rw two

written_read : (buffer x : List ℕ) → Bytes x → (new_read x).number ≡ 0 → length x ≤ length buffer
    → (refusal (write_tests (length buffer) (version_in x) (new_read x).settings) ≡ 0) × (file_written buffer (version_in x) (new_read x).settings ≡ put buffer 0 x)
unfolding file_written
written_read buffer x b e room =
    let a = accepted x e in
    let fits : file_size (version_in x) ≤ length buffer = omega (arith, a.size) in
    let there = le-leb (file_size (version_in x)) (length buffer) fits in
    let can = holds-back (version_in x) x a.version in
    (rw (a.read, a.rules, can, there), rw (a.read, a.rules, can, there) (ap (put buffer 0) (file-back x b a)))

one : (x y : List ℕ) → Bytes x → Bytes y → (new_read x).number ≡ 0 → (new_read y).number ≡ 0 → version_in x ≡ version_in y
    → (new_read x).settings ≡ (new_read y).settings → x ≡ y
one x y bx by ex ey v s =
    let ax = accepted x ex in
    let ay = accepted y ey in
    let sx : settings_in (version_in x) x ≡ settings_in (version_in y) y = sym (ap (λ (r : Read). r.settings) ax.read) ∙ s ∙ ap (λ (r : Read). r.settings) ay.read in
    sym (file-back x bx ax) ∙ ap (λ k. file_bytes k (settings_in (version_in x) x)) v ∙ ap (file_bytes (version_in y)) sx ∙ file-back y by ay

-- ---- reading what was written

identifier-here : (x q : List ℕ) (at id : ℕ) → id < 2 ^ 16 → drop at x ≡ identifier_bytes id ++ q → identifier_at x at ≡ id
identifier-here x q at id small h = number_at-here x at 2 id q h small

bit-small : (b : Bool) → cond b 1 0 < 256 ^ 1
bit-small true = omega arith
bit-small false = omega arith

bit-here : (b : Bool) → eqb (cond b 1 0) 1 ≡ b
bit-here true = refl
bit-here false = refl

-- settings whose fields fit
record Small (s : Settings) : Type 0 where
  manager : s.manager < 2 ^ 16
  least : s.least < 256
  greatest : s.greatest < 256
  limit : s.limit < 2 ^ 16
  count : s.count < 256
  places : length s.identifiers ≡ 8
  identifiers : (i : ℕ) → get_or s.identifiers i 0 < 2 ^ 16

-- read where they were written, and the rule's byte is 0 or 1
module _ (x q : List ℕ) (s : Settings) (f : Small s) (h : drop 5 x ≡ common_bytes s ++ q) where
  h5 : drop 5 x ≡ number_bytes 2 s.manager ++ (number_bytes 1 s.least ++ (number_bytes 1 s.greatest ++ (number_bytes 1 (cond s.powers 1 0)
      ++ (number_bytes 2 s.limit ++ (number_bytes 1 s.count ++ (records identifier_bytes s.identifiers ++ q))))))
  h5 = h ∙ simp append_assoc

  h7 : drop 7 x ≡ number_bytes 1 s.least ++ (number_bytes 1 s.greatest ++ (number_bytes 1 (cond s.powers 1 0)
      ++ (number_bytes 2 s.limit ++ (number_bytes 1 s.count ++ (records identifier_bytes s.identifiers ++ q)))))
  h7 = number_at-next x 5 2 _ _ h5

  h8 : drop 8 x ≡ number_bytes 1 s.greatest ++ (number_bytes 1 (cond s.powers 1 0)
      ++ (number_bytes 2 s.limit ++ (number_bytes 1 s.count ++ (records identifier_bytes s.identifiers ++ q))))
  h8 = number_at-next x 7 1 _ _ h7

  h9 : drop 9 x ≡ number_bytes 1 (cond s.powers 1 0) ++ (number_bytes 2 s.limit ++ (number_bytes 1 s.count ++ (records identifier_bytes s.identifiers ++ q)))
  h9 = number_at-next x 8 1 _ _ h8

  h10 : drop 10 x ≡ number_bytes 2 s.limit ++ (number_bytes 1 s.count ++ (records identifier_bytes s.identifiers ++ q))
  h10 = number_at-next x 9 1 _ _ h9

  h12 : drop 12 x ≡ number_bytes 1 s.count ++ (records identifier_bytes s.identifiers ++ q)
  h12 = number_at-next x 10 2 _ _ h10

  h13 : drop 13 x ≡ records identifier_bytes s.identifiers ++ q
  h13 = number_at-next x 12 1 _ _ h12

  rule-here : rule_in x ≡ cond s.powers 1 0
  rule-here = number_at-here x 9 1 _ _ h9 (bit-small s.powers)

  places-here : identifiers_in x ≡ s.identifiers
  places-here =
      records_at-here identifier_bytes identifier_at 2 identifier_bytes-length (λ id. id < 2 ^ 16) identifier-here x q 13 8 s.identifiers 0 f.places (λ i l. f.identifiers i) h13

  manager-here : number_at x 5 2 ≡ s.manager
  manager-here = number_at-here x 5 2 _ _ h5 f.manager

  settings-here : (v : ℕ) → second_in v x ≡ s.second → shelf_in v x ≡ s.shelf → settings_in v x ≡ s
  settings-here v second shelf =
      rw (
        manager-here,
        number_at-here x 7 1 _ _ h7 f.least,
        number_at-here x 8 1 _ _ h8 f.greatest,
        rule-here,
        bit-here s.powers,
        number_at-here x 10 2 _ _ h10 f.limit,
        second,
        shelf,
        number_at-here x 12 1 _ _ h12 f.count,
        places-here,
      )

-- cleaned settings have zeros in their spare places, and their rules are those of the settings
all-zeros : (n : ℕ) → all (λ y. eqb y 0) (replicate n 0) ≡ true
all-zeros zero = refl
all-zeros (suc n) = all-zeros n

spare-cleaned : (n : ℕ) (xs : List ℕ) → all (λ y. eqb y 0) (drop n (take n xs ++ replicate (length xs - n) 0)) ≡ true
spare-cleaned zero xs = all-zeros (length xs - 0)
spare-cleaned (suc n) [] = let z : 0 - suc n ≡ 0 = omega arith in rw z
spare-cleaned (suc n) (x ∷ xs) = let z : suc (length xs) - suc n ≡ length xs - n = omega arith in rw z (spare-cleaned n xs)

cleaned-spare : (s : Settings) → spare_ok (cleaned s) ≡ true
unfolding spare_ok
cleaned-spare s = spare-cleaned s.count s.identifiers

cleaned-small : (n : ℕ) (xs : List ℕ) → ((i : ℕ) → get_or xs i 0 < 2 ^ 16) → (i : ℕ) → get_or (take n xs ++ replicate (length xs - n) 0) i 0 < 2 ^ 16
cleaned-small zero xs f i = zeros-small (length xs - 0) i
  where
    zeros-small : (n i : ℕ) → get_or (replicate n 0) i 0 < 2 ^ 16
    zeros-small zero i = omega arith
    zeros-small (suc n) zero = omega arith
    zeros-small (suc n) (suc i) = zeros-small n i
cleaned-small (suc n) [] f i = let z : 0 - suc n ≡ 0 = omega arith in rw z (omega arith)
cleaned-small (suc n) (x ∷ xs) f zero = f 0
cleaned-small (suc n) (x ∷ xs) f (suc i) =
    let z : suc (length xs) - suc n ≡ length xs - n = omega arith in rw z (cleaned-small n xs (λ j. f (suc j)) i)

-- a second manager that passes is told from none by its two numbers
module _ (s : Settings) (ok : settings_ok s ≡ true) where
  second-told : second_of s.manager (second_place s.manager s.second) (second_limit s.second) ≡ s.second
  unfolding second_of
  second-told = go s.second refl
    where
      go : (m : Option Second) → s.second ≡ m → second_of s.manager (second_place s.manager m) (second_limit m) ≡ m
      go None e = rw (eq-eqb s.manager s.manager refl)
      go (Some two) e = rw (ne_eqb two.id s.manager (settings_ok-other s two ok e).0)

  second-limit : second_limit s.second ≤ 128
  second-limit = go s.second refl
    where
      go : (m : Option Second) → s.second ≡ m → second_limit m ≤ 128
      go None e = omega arith
      go (Some two) e = (settings_ok-other s two ok e).2

module _ (v : ℕ) (s : Settings) (fit : Fits s) (ok : settings_ok s ≡ true) where
  abbrev more : List ℕ
  more = cond (eqb v 1) [] (second_bytes s)

  small : Small (cleaned s)
  small =
      record {
        manager = fit.manager;
        least = omega (arith, settings_ok-greatest s ok, leb-true s.least s.greatest (settings_ok-at s 4 ok));
        greatest = omega (arith, settings_ok-greatest s ok);
        limit = omega (arith, settings_ok-limit s ok);
        count = omega (arith, settings_ok-count s ok);
        places = cleaned-length s.count s.identifiers ∙ fit.places;
        identifiers = cleaned-small s.count s.identifiers fit.identifiers;
      }

  after-mark : drop 3 (file_bytes v s) ≡ number_bytes 2 v ++ (common_bytes (cleaned s) ++ more)
  unfolding file_bytes
  after-mark = append_assoc (number_bytes 2 v) (common_bytes (cleaned s)) more

  after-version : drop 5 (file_bytes v s) ≡ common_bytes (cleaned s) ++ more
  after-version = number_at-next (file_bytes v s) 3 2 v (common_bytes (cleaned s) ++ more) after-mark

  marked-here : mark_ok (file_bytes v s) ≡ true
  unfolding mark_ok file_bytes
  marked-here = refl

  version-here : v ≤ 2 → version_in (file_bytes v s) ≡ v
  version-here h = number_at-here (file_bytes v s) 3 2 v (common_bytes (cleaned s) ++ more) after-mark (omega arith)

  rule_in-here : rule_in (file_bytes v s) ≤ 1
  rule_in-here = rw (rule-here (file_bytes v s) more (cleaned s) small after-version) (go s.powers)
    where
      go : (b : Bool) → cond b 1 0 ≤ 1
      go true = omega arith
      go false = omega arith

  -- what version 2 adds
  module _ (two : v ≡ 2) where
    after-head : drop 29 (file_bytes v s) ≡ number_bytes 2 (second_place s.manager s.second) ++ (number_bytes 2 (second_limit s.second) ++ (number_bytes 2 s.shelf ++ []))
    after-head =
        rw (file_bytes-two v s (λ z. omega arith), append-nil) (drop_at (head_bytes v (cleaned s)) (second_bytes s) 29 (head_bytes-length v (cleaned s) small.places))

    after-place : drop 31 (file_bytes v s) ≡ number_bytes 2 (second_limit s.second) ++ (number_bytes 2 s.shelf ++ [])
    after-place = number_at-next (file_bytes v s) 29 2 _ _ after-head

    after-limit : drop 33 (file_bytes v s) ≡ number_bytes 2 s.shelf ++ []
    after-limit = number_at-next (file_bytes v s) 31 2 _ _ after-place

    place_here : number_at (file_bytes v s) 29 2 ≡ second_place s.manager s.second
    place_here = number_at-here (file_bytes v s) 29 2 _ _ after-head (place-small s.second refl)
      where
        place-small : (m : Option Second) → s.second ≡ m → second_place s.manager m < 2 ^ 16
        place-small None e = fit.manager
        place-small (Some two) e = fit.second two.id two.limit e

    limit-here : number_at (file_bytes v s) 31 2 ≡ second_limit s.second
    limit-here = number_at-here (file_bytes v s) 31 2 _ _ after-place (omega (arith, second-limit s ok))

    second-two : second_in v (file_bytes v s) ≡ s.second
    unfolding second_in
    second-two = rw (ne_eqb v 1 (λ z. omega arith), place_here, limit-here, manager-here (file_bytes v s) more (cleaned s) small after-version) (second-told s ok)

    shelf-two : shelf_in v (file_bytes v s) ≡ s.shelf
    unfolding shelf_in
    shelf-two = rw (ne_eqb v 1 (λ z. omega arith)) (number_at-here (file_bytes v s) 33 2 _ _ after-limit (omega (arith, settings_ok-shelf s ok)))

  -- a version that holds the settings
  module _ (can : holds v s ≡ true) where
    which : (v ≡ 1) ⊎ (v ≡ 2)
    unfolding holds
    which = go (eqb v 1) refl
      where
        go : (b : Bool) → eqb v 1 ≡ b → (v ≡ 1) ⊎ (v ≡ 2)
        go true e = inl (eqb-true v 1 e)
        go false e = inr (eqb-true v 2 (rw e at can))

    alone : v ≡ 1 → (s.second ≡ None) × (s.shelf ≡ 128)
    alone one = (holds-one s).0 (rw one at can)

    second-here : second_in v (file_bytes v s) ≡ s.second
    unfolding second_in
    second-here = go which
      where
        go : (v ≡ 1) ⊎ (v ≡ 2) → second_in v (file_bytes v s) ≡ s.second
        go (inl one) = rw (eq-eqb v 1 one) (sym (alone one).0)
        go (inr two) = second-two two

    shelf-here : shelf_in v (file_bytes v s) ≡ s.shelf
    unfolding shelf_in
    shelf-here = go which
      where
        go : (v ≡ 1) ⊎ (v ≡ 2) → shelf_in v (file_bytes v s) ≡ s.shelf
        go (inl one) = rw (eq-eqb v 1 one) (sym (alone one).1)
        go (inr two) = shelf-two two

    known : known_version 2 v ≡ true
    known = go which
      where
        go : (v ≡ 1) ⊎ (v ≡ 2) → known_version 2 v ≡ true
        go (inl one) = rw one
        go (inr two) = rw two

    few : v ≤ 2
    few = go which
      where
        go : (v ≡ 1) ⊎ (v ≡ 2) → v ≤ 2
        go (inl one) = omega arith
        go (inr two) = omega arith

    whole : settings_in v (file_bytes v s) ≡ cleaned s
    whole = settings-here (file_bytes v s) more (cleaned s) small after-version v second-here shelf-here

    sized : length (file_bytes v s) ≡ file_size v
    sized = file_bytes-length v s fit.places

    read-file : new_read (file_bytes v s) ≡ record { number = 0; settings = cleaned s }
    read-file =
        new_read-whole (file_bytes v s) v (version-here few) (long (eqb v 1) sized) marked-here known sized rule_in-here (ap spare_ok whole ∙ cleaned-spare s) (ap settings_ok whole ∙ cleaned-ok s ∙ ok)
        ∙ ap (λ r. record { number = 0; settings = r }) whole
      where
        long : (b : Bool) → length (file_bytes v s) ≡ cond b 29 35 → 5 ≤ length (file_bytes v s)
        long true e = omega arith
        long false e = omega arith

-- what the writer's table says where it is passed
writable : (size v : ℕ) (s : Settings) → refusal (write_tests size v s) ≡ 0 → Passed (write_tests size v s)
writable size v s e =
    passes-Passed (write_tests size v s)
    (sym (refusal-none (write_tests size v s) (omega arith, (omega arith, (omega arith, tt)))) ∙ eq-eqb (refusal (write_tests size v s)) 0 e)

read_written : (buffer : List ℕ) (v : ℕ) (s : Settings) → Fits s → refusal (write_tests (length buffer) v s) ≡ 0
    → new_read (take (file_size v) (file_written buffer v s)) ≡ record { number = 0; settings = cleaned s }
unfolding file_written
read_written buffer v s fit e =
    let h = writable (length buffer) v s e in
    let room : file_size v ≤ length buffer = leb-true (file_size v) (length buffer) h.1.1.0 in
    rw (h.0, h.1.0, h.1.1.0, put-take-front buffer (file_size v) (file_bytes v s) (file_bytes-length v s fit.places) room) (read-file v s fit h.0 h.1.0)

-- ---- what was read, written again

identifiers-small : (x : List ℕ) → Bytes x → (i : ℕ) → get_or (identifiers_in x) i 0 < 2 ^ 16
unfolding records_at
identifiers-small x b = go 13 8
  where
    go : (at n i : ℕ) → get_or (records_at identifier_at 2 x at n) i 0 < 2 ^ 16
    go at zero i = omega arith
    go at (suc n) zero = number_at-bound x b at 2
    go at (suc n) (suc i) = go (at + 2) n i

second-small : (v : ℕ) (x : List ℕ) → Bytes x → (id limit : ℕ) → second_in v x ≡ Some (record { id = id; limit = limit }) → id < 2 ^ 16
unfolding second_in second_of
second-small v x b id limit = go (eqb v 1) (eqb (number_at x 29 2) (number_at x 5 2) && eqb (number_at x 31 2) 0)
  where
    go : (t u : Bool) → cond {A = Option Second} t None (cond {A = Option Second} u None (Some (record { id = number_at x 29 2; limit = number_at x 31 2 }))) ≡ Some (record { id = id; limit = limit }) → id < 2 ^ 16
    go true u e = let z : ◌≡◌ {A = ℕ} 0 1 = cc in absurd (omega arith)
    go false true e = let z : ◌≡◌ {A = ℕ} 0 1 = cc in absurd (omega arith)
    go false false e =
        let z : ◌≡◌ {A = Second} (record { id = number_at x 29 2; limit = number_at x 31 2 }) (record { id = id; limit = limit }) = cc in
        omega (arith, number_at-bound x b 29 2, ap (λ (two : Second). two.id) z)

read_fits : (v : ℕ) (x : List ℕ) → Bytes x → Fits (settings_in v x)
read_fits v x b =
    record {
      manager = number_at-bound x b 5 2;
      second = second-small v x b;
      places = records_at-length identifier_at 2 x 13 8;
      identifiers = identifiers-small x b;
    }

survives : (buffer x : List ℕ) (v : ℕ) → Bytes x → (new_read x).number ≡ 0 → refusal (write_tests (length buffer) v (new_read x).settings) ≡ 0
    → new_read (take (file_size v) (file_written buffer v (new_read x).settings)) ≡ new_read x
survives buffer x v b e =
    let a = accepted x e in
    rw a.read (λ w. read_written buffer v (settings_in (version_in x) x) (read_fits (version_in x) x b) w
    ∙ ap (λ (s : Settings). record { number = 0; settings = s }) (clean_back (settings_in (version_in x) x) a.spare))

-- ---- where the fields stand

pub begins : Begins
unfolding number_at
begins = record { mark = refl; version = λ x. omega arith; one = refl; two = refl }

module _ (x : List ℕ) (m : Option Second) (e : second_in 2 x ≡ m) where
  laid-place : number_at x 29 2 ≡ second_place (number_at x 5 2) m
  unfolding second_in
  laid-place = sym (place-back (number_at x 5 2) (number_at x 29 2) (number_at x 31 2)) ∙ ap (second_place (number_at x 5 2)) e

  laid-limit : number_at x 31 2 ≡ second_limit m
  unfolding second_in
  laid-limit = sym (limit-back (number_at x 5 2) (number_at x 29 2) (number_at x 31 2)) ∙ ap second_limit e

laid-at : (v : ℕ) (x : List ℕ) → version_in x ≡ v → Accepted x → Laid x (settings_in v x)
unfolding shelf_in
laid-at v x e a =
    record {
      manager = refl;
      least = refl;
      greatest = refl;
      rule = sym (bit-back (rule_in x) a.rule);
      limit = refl;
      count = refl;
      identifiers = λ i h. sym (records_at-at identifier_at 2 x 13 8 i 0 h);
      none = λ two. let k : v ≡ 2 = sym e ∙ two in rw k (λ q. (laid-place x None q, laid-limit x None q));
      second = λ two. let k : v ≡ 2 = sym e ∙ two in rw k (λ id limit q. (laid-place x (Some (record { id = id; limit = limit })) q, laid-limit x (Some (record { id = id; limit = limit })) q));
      shelf = λ two. let k : v ≡ 2 = sym e ∙ two in rw k;
    }

pub layout : Layout
layout x e = let a = accepted x e in rw a.read (laid-at (version_in x) x refl a)

pub one-encoding : OneEncoding
one-encoding = record { survives = survives; read_written = read_written; written_read = written_read; one = one }
