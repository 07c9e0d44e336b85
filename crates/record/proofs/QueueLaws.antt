-- Laws of queues in a record (W8): what a ring of a sound one is known by, which is the library's interface; and test by test, for this crate alone. Assumes nothing.
use Prim.Native.Nat.{◌<◌, ◌≤◌}
use mathlib.Core.Path.{◌≡◌, refl, sym, ◌∙◌}
use mathlib.Core.Bool.{Bool, true, false, ◌||◌, true≢false}
use native.Mathlib.Omega.{arith}
use lib.Dec.{leb, ltb}
use borrow.Author.Tests.{leb-true, le-leb, ltb-true, ltb-false, lt-ltb}
use Rattle.rules.specs.Queue.{fill_of, queue_ok}
use Rattle.rules.specs.declared.Ring.{Ring}
use Rattle.std.specs.declared.option.Option.TheVariants.{Some}
use Rattle.rules.proofs.ListLaws.{and_left, and_right, and_intro, or_cases}

-- ---- a ring of a sound record

pub record RingFacts (r : Ring) : Type 0 where
  pub fill : fill_of r.posted r.taken ≤ r.size
  pub place : r.place < r.size
  pub full : fill_of r.posted r.taken ≡ r.size → r.stopped ≡ true

pub ring-facts : (r : Ring) → queue_ok (Some r) ≡ true → RingFacts r
unfolding queue_ok
ring-facts r e =
    let k = and_right (leb (fill_of r.posted r.taken) r.size) _ e in
    let f = and_right (ltb r.place r.size) _ k in
    record {
      fill = leb-true (fill_of r.posted r.taken) r.size (and_left (leb (fill_of r.posted r.taken) r.size) _ e);
      place = ltb-true r.place r.size (and_left (ltb r.place r.size) _ k);
      full = λ z. or_cases (ltb (fill_of r.posted r.taken) r.size) r.stopped (r.stopped ≡ true) f (λ l. let h = ltb-true (fill_of r.posted r.taken) r.size l in absurd (omega (arith, z))) (λ s. s);
    }

pub ring-intro : (r : Ring) → fill_of r.posted r.taken ≤ r.size → r.place < r.size → (ltb (fill_of r.posted r.taken) r.size || r.stopped) ≡ true → queue_ok (Some r) ≡ true
unfolding queue_ok
ring-intro r h k f =
    and_intro (leb (fill_of r.posted r.taken) r.size) _ (le-leb (fill_of r.posted r.taken) r.size h) (and_intro (ltb r.place r.size) _ (lt-ltb r.place r.size k) f)

-- one that has not stopped has a place free
pub ring-room : (r : Ring) → RingFacts r → r.stopped ≡ false → fill_of r.posted r.taken < r.size
ring-room r f running = go (ltb (fill_of r.posted r.taken) r.size) refl
  where
    go : (b : Bool) → ltb (fill_of r.posted r.taken) r.size ≡ b → fill_of r.posted r.taken < r.size
    go true q = ltb-true (fill_of r.posted r.taken) r.size q
    go false q =
        let h : r.size ≤ fill_of r.posted r.taken = ltb-false (fill_of r.posted r.taken) r.size q in
        absurd (true≢false (sym (f.full (omega (arith, h, f.fill))) ∙ running))

-- ---- test by test
