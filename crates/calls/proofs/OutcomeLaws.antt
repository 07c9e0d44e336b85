-- What a call answers whose work hands on a refusal by `?`: the refusal's number, with the record as it was. Assumes nothing.
use mathlib.Core.Path.{◌≡◌}
use mathlib.Core.Bool.{false}
use Prim.Native.Nat.{ℕ}
use Rattle.std.specs.Result.{IsErrAnd}
use Rattle.std.specs.declared.result.Result.{Result}
use Rattle.rules.specs.Refusals.{number_of}
use Rattle.rules.specs.declared.Device.{Device}
use Rattle.rules.specs.declared.Refusal.{Refusal}
use Rattle.rules.specs.declared.RowRefusal.{RowRefusal}
use Rattle.rules.proofs.RefusalLaws.{handed_on}
use Rattle.calls.specs.declared.StateSet.{StateSet}
use Rattle.calls.specs.declared.Posted.{Posted}
use Rattle.calls.specs.declared.Taken.{Taken}
use Rattle.calls.specs.Inner.{changed_by, started_by, written_by, state_set_by, posted_by, taken_by}

pub changed-refused : (d : Device) (o : Result Device Refusal) (x : Refusal) → IsErrAnd o (λ e. e ≡ x) → changed_by d o ≡ record { number = number_of x; device = d }
changed-refused d o x e = rw (handed_on o x e)

pub started-refused : (d : Device) (o : Result Device RowRefusal) (x : RowRefusal) → IsErrAnd o (λ e. e ≡ x) → started_by d o ≡ record { number = number_of x.refusal; row = x.row; device = d }
started-refused d o x e = rw (handed_on o x e)

pub written-refused : (o : Result ℕ Refusal) (x : Refusal) → IsErrAnd o (λ e. e ≡ x) → written_by o ≡ record { number = number_of x; count = 0 }
written-refused o x e = rw (handed_on o x e)

pub state_set-refused : (d : Device) (o : Result StateSet Refusal) (x : Refusal) → IsErrAnd o (λ e. e ≡ x) → state_set_by d o ≡ record { number = number_of x; whole = 0; device = d }
state_set-refused d o x e = rw (handed_on o x e)

pub posted-refused : (d : Device) (o : Result Posted Refusal) (x : Refusal) → IsErrAnd o (λ e. e ≡ x) → posted_by d o ≡ record { number = number_of x; stopped = false; device = d }
posted-refused d o x e = rw (handed_on o x e)

pub taken-refused : (d : Device) (o : Result Taken Refusal) (x : Refusal) → IsErrAnd o (λ e. e ≡ x) → taken_by d o ≡ record { number = number_of x; count = 0; closing = false; device = d }
taken-refused d o x e = rw (handed_on o x e)
