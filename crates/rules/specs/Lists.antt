-- Plain functions of lists, with which the rules are written. No rule stands here.
use Rattle.std.specs.Prelude.{ℕ, zero, suc, ◌+◌, Bool, true, false, not, ◌&&◌, ◌||◌, cond, List, [], ◌∷◌, ◌++◌, eqb}
use Rattle.std.specs.declared.option.Option.{Option}
use Rattle.std.specs.declared.option.Option.TheVariants.{None, Some}

-- whether a test holds of each element
abbrev pub all : {A : Type 0} → (A → Bool) → List A → Bool
all p [] = true
all p (x ∷ xs) = p x && all p xs

-- the elements of which a test holds
abbrev pub keep : {A : Type 0} → (A → Bool) → List A → List A
keep p [] = []
keep p (x ∷ xs) = cond (p x) (x ∷ keep p xs) (keep p xs)

-- whether a test holds of some element
abbrev pub any : {A : Type 0} → (A → Bool) → List A → Bool
any p [] = false
any p (x ∷ xs) = p x || any p xs

-- whether a test holds of each two elements
abbrev pub pairs : {A : Type 0} → (A → A → Bool) → List A → Bool
pairs p [] = true
pairs p (x ∷ xs) = all (p x) xs && pairs p xs

-- whether each of several tests holds
abbrev pub every : List Bool → Bool
every [] = true
every (b ∷ bs) = b && every bs

-- whether a test holds of some number below n
abbrev pub some_below : ℕ → (ℕ → Bool) → Bool
some_below zero p = false
some_below (suc n) p = p n || some_below n p

-- whether a number is in a list
abbrev pub member : ℕ → List ℕ → Bool
member x ys = any (λ y. eqb y x) ys

-- whether no two numbers of a list are equal
abbrev pub different : List ℕ → Bool
different xs = pairs (λ x y. not (eqb x y)) xs

-- the place of a number in a list whose first place is n, the earliest if there are several
abbrev pub place_from : ℕ → List ℕ → ℕ → Option ℕ
place_from n [] x = None
place_from n (y ∷ ys) x = cond (eqb y x) (Some n) (place_from (suc n) ys x)

-- whether there is something
abbrev pub is_some : {A : Type 0} → Option A → Bool
is_some None = false
is_some (Some x) = true

-- whether a list has an element
abbrev pub non_empty : {A : Type 0} → List A → Bool
non_empty [] = false
non_empty (x ∷ xs) = true

-- the sum of a list
abbrev pub sum : List ℕ → ℕ
sum [] = 0
sum (x ∷ xs) = x + sum xs

-- several lists as one
abbrev pub join : {A : Type 0} → List (List A) → List A
join [] = []
join (xs ∷ xss) = xs ++ join xss
