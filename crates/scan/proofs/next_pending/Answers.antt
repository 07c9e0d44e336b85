use mathlib.Core.Path.{◌≡◌}
use mathlib.Core.Bool.{Bool, true}
use mathlib.Core.List.{List}
use Prim.Native.Nat.{ℕ, ◌≤◌, ◌<◌, ◌-◌, ◌+◌, ◌^◌}
use native.Mathlib.Omega.{arith}
use lib.ListN.{length, take}
use Rattle.bits.specs.Flat.{flat}
use Rattle.bits.specs.Next.{next}
use Rattle.bits.specs.Share.{get_share}
use Rattle.bits.proofs.Flat.{flat-length}
use Rattle.rules.specs.Settings.{unit_size}
use Rattle.rules.specs.Units.{units}
use Rattle.rules.specs.declared.Range.{Range}
use Rattle.pieces.specs.Pieces.{PieceFound}
use Rattle.pieces.specs.declared.Piece.{Piece}
use Rattle.pieces.proofs.PieceLaws.{piece-length}
use Rattle.scan.specs.Scan.{Scanned}
use Rattle.scan.proofs.ScanSteps.{scanned-start, scanned-nothing, piece-end, scanned-piece, next-from}
use Rattle.scan.proofs.next_pending.Goals as goal
use Rattle.scan.proofs.next_pending.Goals.{In-Some}

-- where a piece was found
module _ (k : In-Some) where
  abbrev i : ℕ
  i = k.loop-piece.i

  abbrev u : ℕ
  u = k.loop-piece.u.0

  abbrev p : ℕ
  p = k.loop-piece.at

  abbrev q : Piece
  q = k.in-Some.piece

  abbrev rs : List Range
  rs = take k.args.rows.count k.args.rows.ranges

  abbrev total : ℕ
  total = length (units k.args.rows.granularity rs)

  abbrev marks : List Bool
  marks = get_share (flat k.args.marks.now) k.args.base total

  fits : k.args.base + total ≤ length (flat k.args.marks.now)
  fits = omega (arith, k.requires.0.within, flat-length k.args.marks.now)

  stood : Scanned k.args.rows.granularity rs marks k.args.pos i u p
  stood = k.loop-piece.invariant

  found : PieceFound (unit_size k.args.rows.granularity) rs i u q
  found = k.in-Some.ensures

  abbrev end : ℕ
  end = p + q.range.length

  ended : end ≤ total
  ended = piece-end k.args.rows.granularity rs marks k.args.pos i u p stood q found

  small : k.args.base + end < 2 ^ 64
  small = omega (arith, ended, k.requires.0.small)

  -- the next set mark of it
  module _ (r : ℕ) (e : r ≡ next true (flat k.args.marks.now) (k.args.base + p) (k.args.base + end)) where
    set : (k.args.base ≤ r) × (r - k.args.base ≡ next true marks p end)
    set = next-from true (flat k.args.marks.now) k.args.base total p end r fits ended e

    none : end ≤ r - k.args.base → Scanned k.args.rows.granularity rs marks k.args.pos q.row q.next.0 end
    none h = scanned-piece k.args.rows.granularity rs marks k.args.pos i u p stood q found (r - k.args.base) set.1 h

pub loop-piece-init : goal.loop-piece-init
loop-piece-init c = scanned-start _ _ _ _ _ _ c.requires.1

pub next_piece-requires : goal.next_piece-requires
next_piece-requires c = (c.loop-piece.invariant.stands.within)

pub returns : goal.returns
returns c =
    scanned-nothing _ _ _ _ _ _ _ c.in_default.ensures c.loop-piece.invariant

pub overflow_add-end : goal.overflow_add-end
overflow_add-end c = omega (arith, small (goal.at.overflow_add-end c).In-Some)

pub overflow_add-base : goal.overflow_add-base
overflow_add-base c = omega (arith, small (goal.at.overflow_add-base c).In-Some)

pub overflow_add-base-in-Some : goal.overflow_add-base-in-Some
overflow_add-base-in-Some c = omega (arith, small (goal.at.overflow_add-base-in-Some c).In-Some)

pub overflow_sub-from : goal.overflow_sub-from
overflow_sub-from c = (set (goal.at.overflow_sub-from c).In-Some _ c.next_set.ensures).0

pub returns-then-from-end : goal.returns-then-from-end
returns-then-from-end c =
    let k = (goal.at.returns-then-from-end c).In-Some in
    record { row = i k; unit = u k; scanned = stood k; piece = found k; first = (set k _ c.next_set.ensures).1; inside = c.if-from-end.true }

pub loop-piece-smaller : goal.loop-piece-smaller
loop-piece-smaller c =
    let f = found (goal.at.loop-piece-smaller c).In-Some in
    omega (arith, piece-length _ _ _ _ _ f, f.some)

pub loop-piece-preserved : goal.loop-piece-preserved
loop-piece-preserved c = none (goal.at.loop-piece-preserved c).In-Some _ c.next_set.ensures c.if-from-end.false
