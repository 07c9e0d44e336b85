use mathlib.Core.Path.{◌≡◌, refl, sym, subst}
use mathlib.Core.Bool.{Bool, false}
use mathlib.Core.List.{List}
use Prim.Native.Nat.{ℕ, ◌≤◌, ◌<◌, ◌-◌, ◌+◌, ◌^◌}
use native.Mathlib.Omega.{arith}
use lib.ListN.{length, take}
use borrow.Author.Rules.{rules}
use Rattle.bits.specs.Flat.{flat}
use Rattle.bits.specs.Next.{next}
use Rattle.bits.specs.Share.{get_share}
use Rattle.bits.proofs.Flat.{flat-length}
use Rattle.rules.specs.Units.{units}
use Rattle.rules.specs.declared.Range.{Range}
use Rattle.scan.specs.Scan.{PendingFound, piece_end, run_of}
use Rattle.scan.specs.declared.Found.{Found}
use Rattle.scan.specs.declared.Run.{Run}
use Rattle.scan.proofs.ScanSteps.{RunFound, run-found, found-end, found-begins, next-from}
use Rattle.scan.proofs.ListSteps.{listing_start, listing-done, listing_full, listing-next}
use Rattle.scan.proofs.list_runs.Goals as goal
use Rattle.scan.proofs.list_runs.Goals.{At-loop-found, In-Ok}

-- the ranges' marks are there
fits : (c : At-loop-found)
    → let a = c.args in
    a.base + length (units a.rows.granularity (take a.rows.count a.rows.ranges)) ≤ length (flat a.marks.now)
fits c = omega (arith, c.requires.0.within, flat-length c.args.marks.now)

-- what was found
module _ (k : In-Ok) where
  abbrev rs : List Range
  rs = take k.args.rows.count k.args.rows.ranges

  abbrev bits : List Bool
  bits = flat k.loop-found.marks

  abbrev p : List Bool
  p = get_share bits k.args.base (length (units k.args.rows.granularity rs))

  abbrev unit : Found
  unit = k.in-Ok.found

  pending : PendingFound k.args.rows.granularity rs p k.loop-found.pos unit
  pending = k.in-Ok.ensures

  run_at : (to : ℕ) → to ≡ next false p unit.from (piece_end unit) → RunFound k.args.rows.granularity rs p k.loop-found.pos (run_of k.args.rows.granularity unit to)
  run_at = run-found k.args.rows.granularity rs p _ unit pending

  small : k.args.base + length (units k.args.rows.granularity rs) < 2 ^ 64
  small = k.requires.0.small

  held : k.args.base + length (units k.args.rows.granularity rs) ≤ length bits
  held = omega (arith, k.requires.0.within, flat-length k.loop-found.marks, k.loop-found.invariant.0)

  -- the run that begins there, as `run_from` answers it
  run_found : (r : Run) → r ≡ run_of k.args.rows.granularity unit (next false bits (k.args.base + unit.from) (k.args.base + piece_end unit) - k.args.base) → RunFound k.args.rows.granularity rs p k.loop-found.pos r
  run_found r h =
      let e = next-from false bits k.args.base _ unit.from (piece_end unit) _ held (found-end k.args.rows.granularity rs p _ unit pending) refl in
      subst (RunFound k.args.rows.granularity rs p k.loop-found.pos) (sym h) (run_at _ e.1)

pub loop-found-init : goal.loop-found-init
loop-found-init c =
    (refl, refl, listing_start _ _ _ _ _ _ (omega (arith, c.requires.0.within, flat-length c.args.marks.now)))

pub next_pending-requires : goal.next_pending-requires
next_pending-requires c =
    let l = c.loop-found in
    let h = c.requires.0 in
    (record { within = omega (arith, h.within, l.invariant.0); small = h.small }, l.invariant.2.stands)

pub returns-in-Err : goal.returns-in-Err
returns-in-Err c =
    rw c.div_ceil.ensures (listing-done _ _ _ _ _ _ (fits (goal.at.returns-in-Err c).At-loop-found) _ _ _ _ _ _ c.loop-found.invariant.2 _ c.in-Err.ensures)

pub returns-then-runs-room : goal.returns-then-runs-room
returns-then-runs-room c =
    listing_full _ _ _ _ _ _ (fits (goal.at.returns-then-runs-room c).At-loop-found) _ _ _ _ _ _ c.loop-found.invariant.2 _ (run_at (goal.at.returns-then-runs-room c).In-Ok _ refl) c.if-runs-room.true

pub run_from-run-requires : goal.run_from-run-requires
run_from-run-requires c =
    let k = (goal.at.run_from-run-requires c).In-Ok in
    (c.args.rows.small, found-begins c.args.rows.granularity (rs k) (p k) _ (unit k) (pending k) (bits k) c.args.base c.args.rows.ok (small k) refl)

pub overflow_add-base : goal.overflow_add-base
overflow_add-base c =
    let k = (goal.at.overflow_add-base c).In-Ok in
    let f = run_found k _ c.run_from-run.ensures in
    omega (arith, f.some, f.stands.inside, small k)

pub overflow_add-base-in-loop-found : goal.overflow_add-base-in-loop-found
overflow_add-base-in-loop-found c =
    let k = (goal.at.overflow_add-base-in-loop-found c).In-Ok in
    omega (arith, (run_found k _ c.run_from-run.ensures).stands.inside, small k)

pub loop-found-preserved : goal.loop-found-preserved
loop-found-preserved c =
    let l = (goal.at.loop-found-preserved c).At-loop-found in (
      search rules,
      search rules,
      listing-next _ _ _ _ _ _ (fits l) _ _ _ _ _ _ c.loop-found.invariant.2 _ (run_found (goal.at.loop-found-preserved c).In-Ok _ c.run_from-run.ensures) _ _
          (omega (arith, c.loop-found.invariant.2.few, c.if-runs-room.false)) c.clear_span.ensures c.put_descriptor.ensures,
    )
