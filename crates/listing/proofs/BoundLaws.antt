-- Laws of `line_of` for one who plays a line: what the numbers of its call stay within. Assumes nothing.
use Prim.Native.Nat.{ℕ, ◌≤◌, ◌<◌}
use mathlib.Core.Path.{◌≡◌, refl, subst}
use mathlib.Core.Bool.{Bool, true, false, cond}
use mathlib.Core.List.{List, map}
use native.Mathlib.Omega.{arith}
use borrow.Author.Tests.{eqb-true}
use lib.ListN.{length, get_or}
use Rattle.rules.specs.Lists.{every}
use Rattle.rules.proofs.ListLaws.{every-at}
use Rattle.fields.specs.Fields.{first_field, later_fields, value}
use Rattle.listing.specs.Listing.{word_of, most_at, takes_count, plain_line, places, call_line, line_rules, line_of, Bounded}
use Rattle.listing.specs.declared.Call.{Call}
use Rattle.listing.specs.declared.Call.TheVariants as call
use Rattle.listing.specs.declared.Line.{Line}
use Rattle.listing.specs.declared.Word.{Word}
use Rattle.listing.specs.declared.Word.TheVariants as word
use Rattle.listing.proofs.WordLaws.{takes-few}
use Rattle.listing.proofs.LineLaws.{places-at, values-fit}

-- of numbers that a word takes, each of which fits
call_line-bounded : (w : Word) (n : ℕ) (vs : List ℕ) → takes_count w n ≡ true → ((k : ℕ) → k < n → get_or vs k 0 ≤ most_at w k) → Bounded (call_line w n vs).call
unfolding call_line
call_line-bounded word.Dev n vs t fits = tt
call_line-bounded word.Start n vs t fits = omega (arith, takes-few word.Start n t)
call_line-bounded word.Stop n vs t fits = tt
call_line-bounded word.Write n vs t fits = tt
call_line-bounded word.Recv n vs t fits = fits 1 (omega (arith, eqb-true n 2 t))
call_line-bounded word.Susp n vs t fits = tt
call_line-bounded word.Resume n vs t fits = tt
call_line-bounded word.Other n vs t fits = tt

-- of any line
line_of-bounded : (s : List ℕ) → Bounded (line_of s).call
unfolding line_of
line_of-bounded s = go (every (line_rules s w fs)) refl
  where
    w : Word
    w = word_of (first_field s)

    fs : List (List ℕ)
    fs = later_fields s

    go : (b : Bool) → every (line_rules s w fs) ≡ b → Bounded (cond b (call_line w (length fs) (places (map value fs))) (plain_line call.Bad)).call
    go true e =
        let taken = every-at (line_rules s w fs) 1 e in
        call_line-bounded w (length fs) (places (map value fs)) taken
        (λ k h. rw (places-at fs (takes-few w (length fs) taken) k h) (values-fit w fs (every-at (line_rules s w fs) 2 e) k h))
    go false e = tt

-- of a line that was read
pub read-bounded : (s : List ℕ) (l : Line) → l ≡ line_of s → Bounded l.call
read-bounded s l e = rw e (line_of-bounded s)

-- of its call, once that is known
pub start-few : (c : Call) → Bounded c → (id g n : ℕ) → c ≡ call.Start id g n → n ≤ 16
start-few c b id g n f = subst Bounded f b

pub recv-small : (c : Call) → Bounded c → (id n : ℕ) → c ≡ call.Recv id n → n ≤ 4096
recv-small c b id n f = subst Bounded f b
