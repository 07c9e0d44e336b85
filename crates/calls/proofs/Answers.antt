-- A promise that names what a call answers and leaves, met by what it returns and leaves. Assumes nothing.
use mathlib.Core.Path.{◌≡◌, refl, sym, ap, ◌∙◌}
use mathlib.Core.List.{List}
use Prim.Native.Nat.{ℕ}
use Rattle.calls.specs.Calls.{Change}

abbrev pub Leaves : {A : Type 0} → Change A → A → List ℕ → Type 0
Leaves c r ws = (r ≡ c.answer) × (ws ≡ c.marks)

pub leaves : {A : Type 0} (c : Change A) (r r' : A) (ws ws' : List ℕ) → c ≡ record { answer = r; marks = ws } → r' ≡ r → ws' ≡ ws → Leaves c r' ws'
leaves {A} c r r' ws ws' e f g = (f ∙ sym (ap (λ (x : Change A). x.answer) e), g ∙ sym (ap (λ (x : Change A). x.marks) e))

-- the same where nothing changed
pub leaves-unchanged : {A : Type 0} (c : Change A) (r : A) (ws : List ℕ) → c ≡ record { answer = r; marks = ws } → Leaves c r ws
leaves-unchanged c r ws e = leaves c r r ws ws e refl refl

-- the same where it names the same by other words
pub leaves-as : {A : Type 0} (c c' : Change A) (r : A) (ws : List ℕ) → c ≡ c' → Leaves c' r ws → Leaves c r ws
leaves-as {A} c c' r ws e l = leaves c c'.answer r c'.marks ws e l.0 l.1
