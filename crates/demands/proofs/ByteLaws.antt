-- W9: what the plain engine's calls leave of each byte, of any record and any bytes. Assumes nothing.
use mathlib.Core.Path.{◌≡◌, refl, sym, ap, ap₂, subst, ◌∙◌}
use mathlib.Core.Logic.{◌≢◌, ◌⊎◌, inl, inr}
use mathlib.Core.Bool.{Bool, true, false, ◌&&◌, cond}
use mathlib.Core.List.{List, [], ◌∷◌, ◌++◌, append_assoc}
use Rattle.std.specs.declared.option.Option.{Option}
use Rattle.std.specs.declared.option.Option.TheVariants.{None, Some}
use Prim.Native.Nat.{ℕ, zero, suc, ◌+◌, ◌-◌, ◌≤◌, ◌<◌}
use native.Mathlib.Omega.{arith}
use lib.Dec.{eqb}
use lib.ListN.{length, get_or, take, drop, replicate, length-append, length-drop, length-replicate}
use lib.Seq.{drop-drop, length-take-le, get_or-append-add, get_or-take, get_or-drop}
use borrow.Author.Tests.{eqb-true, eqb-false, ne_eqb}
use Rattle.pool.specs.Pool.{new_base, Packs}
use Rattle.rules.specs.Lists.{join}
use Rattle.rules.specs.Settings.{place_of}
use Rattle.rules.specs.Units.{Unit, Write, touches, units}
use Rattle.rules.specs.Report.{room, reported_runs}
use Rattle.rules.specs.Order.{fresh_order, stop_order, write_order, receive_order}
use Rattle.rules.specs.Machine.{no_report}
use Rattle.rules.specs.Device.{held_units, held_of, fresh_of}
use Rattle.rules.specs.declared.Range.{Range}
use Rattle.rules.specs.declared.Tracking.{Tracking}
use Rattle.rules.specs.declared.Tracking.TheVariants.{Off, On}
use Rattle.rules.specs.declared.Settings.{Settings}
use Rattle.rules.specs.declared.Device.{Device}
use Rattle.rules.proofs.ListLaws.{and_right}
use Rattle.rules.proofs.RefusalLaws.{verdict-has, verdict-done}
use Rattle.record.specs.Record.{controller_at, seen_in}
use Rattle.plain_marks.specs.Plain.{marks_of, mark_bytes, clear_bytes}
use Rattle.plain_marks.proofs.Outside.{mark_bytes-length, clear_bytes-length}
use Rattle.calls.specs.declared.Changed.{Changed}
use Rattle.calls.specs.Calls.{Change, changed, fresh_by, stop_done, stop_by, Note, noted, note_in, write_done, write_by, Receipt, received, receive_in, receive_done, receive_by}
use Rattle.plain.specs.Bytes.{cleared_bytes, joined_bytes, packed_bytes, in_bytes}

-- ---- bytes of which all from a place on are made anew

module _ (f : List ℕ → List ℕ) where
  anew-at : (P : ℕ → ℕ → Type 0) → ((b : ℕ) → P b b) → ((bs : List ℕ) (i : ℕ) → P (get_or (f bs) i 0) (get_or bs i 0))
      → (base : ℕ) (bs : List ℕ) (i : ℕ) → P (get_or (take base bs ++ f (drop base bs)) i 0) (get_or bs i 0)
  anew-at P same each zero bs i = each bs i
  anew-at P same each (suc base) [] i = each [] i
  anew-at P same each (suc base) (b ∷ bs) zero = same b
  anew-at P same each (suc base) (b ∷ bs) (suc i) = anew-at P same each base bs i

  anew-length : ((bs : List ℕ) → length (f bs) ≡ length bs) → (base : ℕ) (bs : List ℕ) → length (take base bs ++ f (drop base bs)) ≡ length bs
  anew-length each zero bs = each bs
  anew-length each (suc base) [] = each []
  anew-length each (suc base) (b ∷ bs) = ap suc (anew-length each base bs)

-- as it was, or 1 where it was 0
abbrev Marked : ℕ → ℕ → Type 0
Marked byte was = (byte ≡ was) ⊎ ((was ≡ 0) × (byte ≡ 1))

-- as it was, or 0
abbrev Cleared : ℕ → ℕ → Type 0
Cleared byte was = (byte ≡ was) ⊎ (byte ≡ 0)

marks-each : (w : Write) (us : List Unit) (bs : List ℕ) (i : ℕ) → Marked (get_or (mark_bytes w us bs) i 0) (get_or bs i 0)
marks-each w [] bs i = inl refl
marks-each w (u ∷ us) [] i = inl refl
marks-each w (u ∷ us) (b ∷ bs) (suc i) = marks-each w us bs i
marks-each w (u ∷ us) (b ∷ bs) zero = go (touches w u && eqb b 0) refl
  where
    go : (c : Bool) → (touches w u && eqb b 0) ≡ c → Marked (cond c 1 b) b
    go true e = inr (eqb-true b 0 (and_right (touches w u) (eqb b 0) e), refl)
    go false e = inl refl

clears-each : (m : ℕ) (bs : List ℕ) (i : ℕ) → Cleared (get_or (clear_bytes m bs) i 0) (get_or bs i 0)
clears-each zero bs i = inl refl
clears-each (suc m) [] i = inl refl
clears-each (suc m) (zero ∷ bs) zero = inl refl
clears-each (suc m) (zero ∷ bs) (suc i) = clears-each (suc m) bs i
clears-each (suc m) (suc b ∷ bs) zero = inr refl
clears-each (suc m) (suc b ∷ bs) (suc i) = clears-each m bs i

zeros-each : (n : ℕ) (bs : List ℕ) (i : ℕ) → Cleared (get_or (replicate n 0 ++ drop n bs) i 0) (get_or bs i 0)
zeros-each zero bs i = inl refl
zeros-each (suc n) bs zero = inr refl
zeros-each (suc n) [] (suc i) = inr (zeros n i)
  where
    zeros : (n i : ℕ) → ◌≡◌ {A = ℕ} (get_or (replicate n 0 ++ []) i 0) 0
    zeros zero i = refl
    zeros (suc n) zero = refl
    zeros (suc n) (suc i) = zeros n i
zeros-each (suc n) (b ∷ bs) (suc i) = zeros-each n bs i

-- ---- the calls

pub fresh-zeros : (s : Settings) (bs : List ℕ) → (fresh_by in_bytes s bs).answer.number ≡ 0 → (fresh_by in_bytes s bs).marks ≡ replicate (length bs) 0
unfolding fresh_by
fresh-zeros s bs e =
    let d = fresh_of s (in_bytes.words bs) in
    ap (λ (c : Change Changed). c.marks)
    (verdict-done (λ (c : Change Changed). c.answer.number) (fresh_order s (in_bytes.words bs)) (changed 0 d (replicate (length bs) 0)) (λ n i. changed n d bs) (λ n i. refl) (omega arith, (omega arith, tt)) e).0

pub fresh_bytes : (s : Settings) (bs : List ℕ) → length (fresh_by in_bytes s bs).marks ≡ length bs
unfolding fresh_by
fresh_bytes s bs =
    let d = fresh_of s (in_bytes.words bs) in
    verdict-has (λ (c : Change Changed). length c.marks ≡ length bs) (λ n i. changed n d bs) (λ n i. refl) (fresh_order s (in_bytes.words bs)) (changed 0 d (replicate (length bs) 0)) (λ p. length-replicate {A = ℕ} (length bs) 0)

module _ (d : Device) (bs : List ℕ) (id : ℕ) where
  -- a stop
  pub stop-each : (b i : ℕ) → Cleared (get_or (stop_by in_bytes d bs b id).marks i 0) (get_or bs i 0)
  unfolding stop_by cleared_bytes
  stop-each b i =
      verdict-has (λ (c : Change Changed). Cleared (get_or c.marks i 0) (get_or bs i 0)) (λ n j. changed n d bs) (λ n j. inl refl) (stop_order d.settings b (seen_in d (in_bytes.words bs) (place_of d.settings id)))
      (stop_done in_bytes d bs (place_of d.settings id)) (λ p. done (place_of d.settings id))
    where
      done : (p : Option ℕ) → Cleared (get_or (stop_done in_bytes d bs p).marks i 0) (get_or bs i 0)
      done None = inl refl
      done (Some j) =
          let base = (controller_at d (Some j)).base in
          let n = held_units (held_of (controller_at d (Some j))) in
          subst (λ l. Cleared (get_or (take base bs ++ (replicate n 0 ++ l)) i 0) (get_or bs i 0)) (drop-drop n base bs) (anew-at (λ l. replicate n 0 ++ drop n l) Cleared (λ b. inl refl) (zeros-each n) base bs i)

  -- a write
  module _ (w : Write) where
    noted-each : (i base : ℕ) (t : Tracking) (rs : List Range) → Marked (get_or (note_in in_bytes bs base t rs w).marks i 0) (get_or bs i 0)
    noted-each i base Off rs = inl refl
    noted-each i base (On g n) rs = anew-at (mark_bytes w (units g (take n rs))) Marked (λ b. inl refl) (marks-each w (units g (take n rs))) base bs i

    noted-length : (base : ℕ) (t : Tracking) (rs : List Range) → length (note_in in_bytes bs base t rs w).marks ≡ length bs
    noted-length base Off rs = refl
    noted-length base (On g n) rs = anew-length (mark_bytes w (units g (take n rs))) (mark_bytes-length w (units g (take n rs))) base bs

    pub write-each : (i : ℕ) → Marked (get_or (write_by in_bytes d bs id w).marks i 0) (get_or bs i 0)
    unfolding write_by
    write-each i =
        verdict-has (λ (c : Note). Marked (get_or c.marks i 0) (get_or bs i 0)) (λ n j. noted n 0 bs) (λ n j. inl refl) (write_order (seen_in d (in_bytes.words bs) (place_of d.settings id)) w)
        (write_done in_bytes d bs w (place_of d.settings id)) (λ p. done (place_of d.settings id))
      where
        done : (p : Option ℕ) → Marked (get_or (write_done in_bytes d bs w p).marks i 0) (get_or bs i 0)
        done None = inl refl
        done (Some j) = noted-each i (controller_at d (Some j)).base (controller_at d (Some j)).tracking (controller_at d (Some j)).ranges

    pub write_bytes : length (write_by in_bytes d bs id w).marks ≡ length bs
    unfolding write_by
    write_bytes =
        verdict-has (λ (c : Note). length c.marks ≡ length bs) (λ n j. noted n 0 bs) (λ n j. refl) (write_order (seen_in d (in_bytes.words bs) (place_of d.settings id)) w)
        (write_done in_bytes d bs w (place_of d.settings id)) (λ p. done (place_of d.settings id))
      where
        done : (p : Option ℕ) → length (write_done in_bytes d bs w p).marks ≡ length bs
        done None = refl
        done (Some j) = noted-length (controller_at d (Some j)).base (controller_at d (Some j)).tracking (controller_at d (Some j)).ranges

  -- a receive
  module _ (m : ℕ) (x : List ℕ) where
    -- how many units are reported
    abbrev listed : ℕ → ℕ → List Range → ℕ → ℕ
    listed base g rs n = length (join (reported_runs (room (length x)) (units g (take n rs)) (marks_of bs base (length (units g (take n rs))))))

    reported-each : (i base : ℕ) (b : Bool) (t : Tracking) (rs : List Range) → Cleared (get_or (receive_in in_bytes bs base id b t rs x).marks i 0) (get_or bs i 0)
    reported-each i base b Off rs = inl refl
    reported-each i base b (On g n) rs = anew-at (clear_bytes (listed base g rs n)) Cleared (λ b. inl refl) (clears-each (listed base g rs n)) base bs i

    reported-length : (base : ℕ) (b : Bool) (t : Tracking) (rs : List Range) → length (receive_in in_bytes bs base id b t rs x).marks ≡ length bs
    reported-length base b Off rs = refl
    reported-length base b (On g n) rs = anew-length (clear_bytes (listed base g rs n)) (clear_bytes-length (listed base g rs n)) base bs

    pub receive-each : (i : ℕ) → Cleared (get_or (receive_by in_bytes d bs m id x).marks i 0) (get_or bs i 0)
    unfolding receive_by
    receive-each i =
        verdict-has (λ (c : Receipt). Cleared (get_or c.marks i 0) (get_or bs i 0)) (λ n j. received n no_report bs x) (λ n j. inl refl) (receive_order d.settings m (seen_in d (in_bytes.words bs) (place_of d.settings id)) x)
        (receive_done in_bytes d bs id x (place_of d.settings id)) (λ p. done (place_of d.settings id))
      where
        done : (p : Option ℕ) → Cleared (get_or (receive_done in_bytes d bs id x p).marks i 0) (get_or bs i 0)
        done None = inl refl
        done (Some j) = reported-each i (controller_at d (Some j)).base (controller_at d (Some j)).suspended (controller_at d (Some j)).tracking (controller_at d (Some j)).ranges

    pub receive-bytes : length (receive_by in_bytes d bs m id x).marks ≡ length bs
    unfolding receive_by
    receive-bytes =
        verdict-has (λ (c : Receipt). length c.marks ≡ length bs) (λ n j. received n no_report bs x) (λ n j. refl) (receive_order d.settings m (seen_in d (in_bytes.words bs) (place_of d.settings id)) x)
        (receive_done in_bytes d bs id x (place_of d.settings id)) (λ p. done (place_of d.settings id))
      where
        done : (p : Option ℕ) → length (receive_done in_bytes d bs id x p).marks ≡ length bs
        done None = refl
        done (Some j) = reported-length (controller_at d (Some j)).base (controller_at d (Some j)).suspended (controller_at d (Some j)).tracking (controller_at d (Some j)).ranges

-- ---- shares that are packed

get_d_front : (xs ys : List ℕ) (i : ℕ) → i < length xs → get_or (xs ++ ys) i 0 ≡ get_or xs i 0
get_d_front [] ys i h = absurd (omega arith)
get_d_front (x ∷ xs) ys zero h = refl
get_d_front (x ∷ xs) ys (suc i) h = get_d_front xs ys i (omega arith)

module _ (bs bases sizes : List ℕ) (clear : ℕ) (packs : Packs bs bases sizes clear) where
  -- the bytes of a share
  abbrev part : ℕ → List ℕ
  part i = cond (eqb i clear) (replicate (get_or sizes i 0) 0) (take (get_or sizes i 0) (drop (get_or bases i 0) bs))

  part_length : (i : ℕ) → i < 8 → length (part i) ≡ get_or sizes i 0
  part_length i h = go (eqb i clear) refl (eqb (get_or sizes i 0) 0) refl
    where
      go : (b : Bool) → eqb i clear ≡ b → (z : Bool) → eqb (get_or sizes i 0) 0 ≡ z
          → length (cond b (replicate (get_or sizes i 0) 0) (take (get_or sizes i 0) (drop (get_or bases i 0) bs))) ≡ get_or sizes i 0
      go true e z f = length-replicate {A = ℕ} (get_or sizes i 0) 0
      go false e true f = let n = eqb-true (get_or sizes i 0) 0 f in rw n
      go false e false f =
          let n = eqb-false (get_or sizes i 0) 0 f in
          let inside = packs.inside i h (eqb-false i clear e) (omega (arith, n)) in
          length-take-le (get_or sizes i 0) (drop (get_or bases i 0) bs) (omega (arith, inside, length-drop (get_or bases i 0) bs))

  joined_long : (n : ℕ) → n ≤ 8 → length (joined_bytes bs bases sizes clear n) ≡ new_base sizes n
  unfolding joined_bytes new_base
  joined_long zero h = refl
  joined_long (suc n) h = length-append (joined_bytes bs bases sizes clear n) (part n) ∙ ap₂ (λ a b. a + b) (joined_long n (omega arith)) (part_length n (omega arith))

  joined_at : (n : ℕ) → n ≤ 8 → (rest : List ℕ) (j m : ℕ) → j < n → j ≢ clear → m < get_or sizes j 0
      → get_or (joined_bytes bs bases sizes clear n ++ rest) (new_base sizes j + m) 0 ≡ get_or bs (get_or bases j 0 + m) 0
  unfolding joined_bytes
  joined_at zero h rest j m k other g = absurd (omega arith)
  joined_at (suc n) h rest j m k other g =
      ap (λ l. get_or l (new_base sizes j + m) 0) (append_assoc (joined_bytes bs bases sizes clear n) (part n) rest) ∙ go (eqb j n) refl (joined_at n (omega arith) (part n ++ rest) j m)
    where
      go : (b : Bool) → eqb j n ≡ b
          → (j < n → j ≢ clear → m < get_or sizes j 0 → get_or (joined_bytes bs bases sizes clear n ++ (part n ++ rest)) (new_base sizes j + m) 0 ≡ get_or bs (get_or bases j 0 + m) 0)
          → get_or (joined_bytes bs bases sizes clear n ++ (part n ++ rest)) (new_base sizes j + m) 0 ≡ get_or bs (get_or bases j 0 + m) 0
      go true e ih =
          let same : j ≡ n = eqb-true j n e in
          let own : part n ≡ take (get_or sizes j 0) (drop (get_or bases j 0) bs) = rw (sym same, ne_eqb j clear other) in
          ap (λ i. get_or (joined_bytes bs bases sizes clear n ++ (part n ++ rest)) (i + m) 0) (ap (new_base sizes) same ∙ sym (joined_long n (omega arith)))
          ∙ get_or-append-add (joined_bytes bs bases sizes clear n) (part n ++ rest) m 0
          ∙ get_d_front (part n) rest m (omega (arith, part_length n (omega arith), g, ap (λ i. get_or sizes i 0) same))
          ∙ ap (λ l. get_or l m 0) own
          ∙ get_or-take (get_or sizes j 0) (drop (get_or bases j 0) bs) m 0 g
          ∙ get_or-drop (get_or bases j 0) bs m 0
      go false e ih = ih (omega (arith, eqb-false j n e, k)) other g

  -- a share that is kept has its bytes, at its new place
  pub packed_byte : (j m : ℕ) → j < 8 → j ≢ clear → m < get_or sizes j 0 → get_or (packed_bytes bs bases sizes clear) (new_base sizes j + m) 0 ≡ get_or bs (get_or bases j 0 + m) 0
  unfolding packed_bytes
  packed_byte j m h other g = joined_at 8 (omega arith) (replicate (length bs - new_base sizes 8) 0) j m h other g
