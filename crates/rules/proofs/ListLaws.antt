-- Laws of the plain functions of lists, and of what holds of every element. Assumes nothing.
use mathlib.Core.Path.{◌≡◌, refl, sym, ap, ap₂, subst, ◌∙◌}
use mathlib.Core.Bool.{Bool, true, false, ◌&&◌, ◌||◌, not, cond, or-false, or_assoc, true≢false}
use mathlib.Core.List.{List, [], ◌∷◌, ◌++◌, map, append_assoc}
use Rattle.std.specs.declared.option.Option.TheVariants.{Some}
use Prim.Native.Nat.{ℕ, zero, suc, ◌+◌, ◌≤◌, ◌<◌, min}
use native.Mathlib.Numerals.{add-one}
use native.Mathlib.Omega.{arith}
use lib.Dec.{eqb}
use lib.ListN.{length, take, drop, get_or, set, length-take, drop_of_length-le}
use Rattle.std.specs.List.{slice_get}
use lib.Seq.{take-append_seam, drop-append_seam, drop-cons, get_or-take}
use borrow.Author.Tests.{eqb-true, eq-eqb}
use Rattle.rules.specs.Lists.{all, any, keep, every, member, join, place_from}

-- ---- Bools

pub and_left : (a b : Bool) → (a && b) ≡ true → a ≡ true
and_left true b e = refl
and_left false b e = e

pub and_right : (a b : Bool) → (a && b) ≡ true → b ≡ true
and_right true b e = e
and_right false b e = absurd (true≢false (sym e))

pub and_intro : (a b : Bool) → a ≡ true → b ≡ true → (a && b) ≡ true
and_intro true b e f = f
and_intro false b e f = e

pub or-intro-left : (a b : Bool) → a ≡ true → (a || b) ≡ true
or-intro-left true b e = refl
or-intro-left false b e = absurd (true≢false (sym e))

pub or-intro-right : (a b : Bool) → b ≡ true → (a || b) ≡ true
or-intro-right true b e = refl
or-intro-right false b e = e

pub or-neither : (a b : Bool) → a ≡ false → b ≡ false → (a || b) ≡ false
or-neither true b e f = e
or-neither false b e f = f

pub or_cases : (a b : Bool) (C : Type 0) → (a || b) ≡ true → (a ≡ true → C) → (b ≡ true → C) → C
or_cases true b C e f g = f refl
or_cases false b C e f g = g e

pub false-intro : (b : Bool) → (b ≡ true → ⊥) → b ≡ false
false-intro true h = absurd (h refl)
false-intro false h = refl

pub not-intro : (b : Bool) → b ≡ false → not b ≡ true
not-intro true e = sym e
not-intro false e = refl

-- two tests that say each other are one
pub bool-ext : (a b : Bool) → (a ≡ true → b ≡ true) → (b ≡ true → a ≡ true) → a ≡ b
bool-ext true b f g = sym (f refl)
bool-ext false b f g = sym (false-intro b (λ e. true≢false (sym (g e))))

-- ---- a fact of every element

abbrev pub All : {A : Type 0} → (A → Type 0) → List A → Type 0
All P [] = Unit {0}
All P (x ∷ xs) = P x × All P xs

pub All-map : {A : Type 0} {P Q : A → Type 0} → ((x : A) → P x → Q x) → (xs : List A) → All P xs → All Q xs
All-map f [] h = tt
All-map f (x ∷ xs) h = (f x h.0, All-map f xs h.1)

pub All-both : {A : Type 0} (P Q : A → Type 0) (xs : List A) → All P xs → All Q xs → All (λ x. P x × Q x) xs
All-both P Q [] p q = tt
All-both P Q (x ∷ xs) p q = ((p.0, q.0), All-both P Q xs p.1 q.1)

pub All-append : {A : Type 0} (P : A → Type 0) (xs ys : List A) → All P xs → All P ys → All P (xs ++ ys)
All-append P [] ys p q = q
All-append P (x ∷ xs) ys p q = (p.0, All-append P xs ys p.1 q)

pub All-left : {A : Type 0} (P : A → Type 0) (xs ys : List A) → All P (xs ++ ys) → All P xs
All-left P [] ys p = tt
All-left P (x ∷ xs) ys p = (p.0, All-left P xs ys p.1)

pub All-right : {A : Type 0} (P : A → Type 0) (xs ys : List A) → All P (xs ++ ys) → All P ys
All-right P [] ys p = p
All-right P (x ∷ xs) ys p = All-right P xs ys p.1

pub All-take : {A : Type 0} (P : A → Type 0) (k : ℕ) (xs : List A) → All P xs → All P (take k xs)
All-take P zero xs h = tt
All-take P (suc k) [] h = tt
All-take P (suc k) (x ∷ xs) h = (h.0, All-take P k xs h.1)

pub All-drop : {A : Type 0} (P : A → Type 0) (k : ℕ) (xs : List A) → All P xs → All P (drop k xs)
All-drop P zero xs h = h
All-drop P (suc k) [] h = tt
All-drop P (suc k) (x ∷ xs) h = All-drop P k xs h.1

pub All-keep : {A : Type 0} (P : A → Type 0) (f : A → Bool) (xs : List A) → All P xs → All P (keep f xs)
All-keep P f [] h = tt
All-keep P f (x ∷ xs) h = go (All-keep P f xs h.1) (f x)
  where
    go : All P (keep f xs) → (b : Bool) → All P (cond b (x ∷ keep f xs) (keep f xs))
    go k true = (h.0, k)
    go k false = k

pub All-kept : {A : Type 0} (f : A → Bool) (xs : List A) → All (λ x. f x ≡ true) (keep f xs)
All-kept f [] = tt
All-kept f (x ∷ xs) = go (All-kept f xs) (f x) refl
  where
    go : All (λ y. f y ≡ true) (keep f xs) → (b : Bool) → f x ≡ b → All (λ y. f y ≡ true) (cond b (x ∷ keep f xs) (keep f xs))
    go k true e = (e, k)
    go k false e = k

-- a relation holds of each element and each later one
abbrev pub Pairwise : {A : Type 0} → (A → A → Type 0) → List A → Type 0
Pairwise R [] = Unit {0}
Pairwise R (x ∷ xs) = All (R x) xs × Pairwise R xs

pub Pairwise-append : {A : Type 0} (R : A → A → Type 0) (xs ys : List A) → Pairwise R xs → Pairwise R ys → All (λ x. All (R x) ys) xs → Pairwise R (xs ++ ys)
Pairwise-append R [] ys p q c = q
Pairwise-append R (x ∷ xs) ys p q c = (All-append (R x) xs ys p.0 c.0, Pairwise-append R xs ys p.1 q c.1)

pub Pairwise-keep : {A : Type 0} (R : A → A → Type 0) (f : A → Bool) (xs : List A) → Pairwise R xs → Pairwise R (keep f xs)
Pairwise-keep R f [] h = tt
Pairwise-keep R f (x ∷ xs) h = go (Pairwise-keep R f xs h.1) (f x)
  where
    go : Pairwise R (keep f xs) → (b : Bool) → Pairwise R (cond b (x ∷ keep f xs) (keep f xs))
    go k true = (All-keep (R x) f xs h.0, k)
    go k false = k

pub All-always : {A : Type 0} {P : A → Type 0} → ((x : A) → P x) → (xs : List A) → All P xs
All-always f [] = tt
All-always f (x ∷ xs) = (f x, All-always f xs)

pub All-at : {A : Type 0} (P : A → Type 0) (xs : List A) (n : ℕ) (x : A) → All P xs → slice_get xs n ≡ Some x → P x
All-at P [] n x h e = let z : ◌≡◌ {A = ℕ} 0 1 = cc in absurd (omega arith)
All-at P (y ∷ xs) zero x h e = let q : y ≡ x = cc in subst P q h.0
All-at P (y ∷ xs) (suc n) x h e = All-at P xs n x h.1 e

-- ---- map

pub map-cong : {A B : Type 0} (f g : A → B) (xs : List A) → All (λ x. f x ≡ g x) xs → map f xs ≡ map g xs
map-cong f g [] h = refl
map-cong f g (x ∷ xs) h = ap₂ (λ a b. a ∷ b) h.0 (map-cong f g xs h.1)

pub map_same : {A B : Type 0} {f g : A → B} → ((x : A) → f x ≡ g x) → (xs : List A) → map f xs ≡ map g xs
map_same {f} {g} e xs = map-cong f g xs (All-always e xs)

pub map_at : {A B : Type 0} (f : A → B) (xs : List A) (n : ℕ) (x : A) → slice_get xs n ≡ Some x → slice_get (map f xs) n ≡ Some (f x)
map_at f [] n x e = let z : ◌≡◌ {A = ℕ} 0 1 = cc in absurd (omega arith)
map_at f (y ∷ xs) zero x e = let q : y ≡ x = cc in ap (λ v. Some (f v)) q
map_at f (y ∷ xs) (suc n) x e = map_at f xs n x e

pub map-set : {A B : Type 0} (f : A → B) (xs : List A) (i : ℕ) (x : A) → map f (set xs i x) ≡ set (map f xs) i (f x)
map-set f [] i x = refl
map-set f (y ∷ xs) zero x = refl
map-set f (y ∷ xs) (suc i) x = ap (λ l. f y ∷ l) (map-set f xs i x)

pub some_inj : {A : Type 0} {x y : A} → Some x ≡ Some y → x ≡ y
some_inj e = cc

-- what stands at an index, and that the index is one
pub slice_get-at : {A : Type 0} (xs : List A) (m : ℕ) (x d : A) → slice_get xs m ≡ Some x → (m < length xs) × (get_or xs m d ≡ x)
slice_get-at [] m x d e = let z : ◌≡◌ {A = ℕ} 0 1 = cc in absurd (omega arith)
slice_get-at (y ∷ xs) zero x d e = (omega arith, some_inj e)
slice_get-at (y ∷ xs) (suc m) x d e = let r = slice_get-at xs m x d e in (omega (arith, r.0), r.1)

pub Pairwise-at : {A : Type 0} (R : A → A → Type 0) (xs : List A) → Pairwise R xs → (m n : ℕ) (x y : A) → m < n → slice_get xs m ≡ Some x → slice_get xs n ≡ Some y → R x y
Pairwise-at R [] h m n x y l e f = absurd (let z : ◌≡◌ {A = ℕ} 0 1 = cc in omega arith)
Pairwise-at R (z ∷ xs) h zero zero x y l e f = absurd (omega arith)
Pairwise-at R (z ∷ xs) h zero (suc n) x y l e f = subst (λ w. R w y) (some_inj e) (All-at (R z) xs n y h.0 f)
Pairwise-at R (z ∷ xs) h (suc m) zero x y l e f = absurd (omega arith)
Pairwise-at R (z ∷ xs) h (suc m) (suc n) x y l e f = Pairwise-at R xs h.1 m n x y (omega arith) e f

-- ---- all, every, member

pub eqb_comm : (x y : ℕ) → eqb x y ≡ eqb y x
eqb_comm x y = bool-ext (eqb x y) (eqb y x) (λ e. eq-eqb y x (sym (eqb-true x y e))) (λ e. eq-eqb x y (sym (eqb-true y x e)))

-- what stands past the end makes no difference to what is there
pub get_d_any : {A : Type 0} (xs : List A) (i : ℕ) (d e : A) → i < length xs → get_or xs i d ≡ get_or xs i e
get_d_any [] i d e h = absurd (omega arith)
get_d_any (x ∷ xs) zero d e h = refl
get_d_any (x ∷ xs) (suc i) d e h = get_d_any xs i d e (omega arith)

pub every-at : (bs : List Bool) (i : ℕ) → every bs ≡ true → get_or bs i true ≡ true
every-at [] i e = refl
every-at (b ∷ bs) zero e = and_left b (every bs) e
every-at (b ∷ bs) (suc i) e = every-at bs i (and_right b (every bs) e)

-- where one of several tests fails, not each holds
pub every-not : (bs : List Bool) (i : ℕ) → get_or bs i true ≡ false → every bs ≡ false
every-not [] i e = absurd (true≢false e)
every-not (false ∷ bs) i e = refl
every-not (true ∷ bs) zero e = absurd (true≢false e)
every-not (true ∷ bs) (suc i) e = every-not bs i e

-- of each element is of the one at a place
pub all-at : {A : Type 0} (f : A → Bool) (xs : List A) (i : ℕ) (d : A) → all f xs ≡ true → i < length xs → f (get_or xs i d) ≡ true
all-at f [] i d e h = absurd (omega arith)
all-at f (x ∷ xs) zero d e h = and_left (f x) (all f xs) e
all-at f (x ∷ xs) (suc i) d e h = all-at f xs i d (and_right (f x) (all f xs) e) (omega arith)

pub all_from : {A : Type 0} (f : A → Bool) (xs : List A) (d : A) → ((i : ℕ) → i < length xs → f (get_or xs i d) ≡ true) → all f xs ≡ true
all_from f [] d h = refl
all_from f (x ∷ xs) d h = and_intro (f x) (all f xs) (h 0 (omega arith)) (all_from f xs d (λ i l. h (suc i) (omega arith)))

-- of each member, and from that
pub all-member : (f : ℕ → Bool) (xs : List ℕ) (x : ℕ) → all f xs ≡ true → member x xs ≡ true → f x ≡ true
all-member f [] x e h = absurd (true≢false (sym h))
all-member f (y ∷ ys) x e h =
    or_cases (eqb y x) (member x ys) (f x ≡ true) h (λ q. ap f (sym (eqb-true y x q)) ∙ and_left (f y) (all f ys) e) (λ k. all-member f ys x (and_right (f y) (all f ys) e) k)

pub all-members : (f : ℕ → Bool) (xs : List ℕ) → ((x : ℕ) → member x xs ≡ true → f x ≡ true) → all f xs ≡ true
all-members f [] h = refl
all-members f (y ∷ ys) h =
    and_intro (f y) (all f ys) (h y (or-intro-left (eqb y y) (member y ys) (eq-eqb y y refl))) (all-members f ys (λ x k. h x (or-intro-right (eqb y x) (member x ys) k)))

pub all_map : {A B : Type 0} (f : B → Bool) (g : A → B) (xs : List A) → all f (map g xs) ≡ all (λ x. f (g x)) xs
all_map f g [] = refl
all_map f g (x ∷ xs) = ap (λ b. f (g x) && b) (all_map f g xs)

pub all_set : {A : Type 0} (f : A → Bool) (xs : List A) (i : ℕ) (x : A) → all f xs ≡ true → f x ≡ true → all f (set xs i x) ≡ true
all_set f [] i x e h = refl
all_set f (y ∷ xs) zero x e h = and_intro (f x) (all f xs) h (and_right (f y) (all f xs) e)
all_set f (y ∷ xs) (suc i) x e h = and_intro (f y) (all f (set xs i x)) (and_left (f y) (all f xs) e) (all_set f xs i x (and_right (f y) (all f xs) e) h)

pub all_get_d : {A : Type 0} (f : A → Bool) (xs : List A) (i : ℕ) (d : A) → f d ≡ true → all f xs ≡ true → f (get_or xs i d) ≡ true
all_get_d f [] i d z e = z
all_get_d f (x ∷ xs) zero d z e = and_left (f x) (all f xs) e
all_get_d f (x ∷ xs) (suc i) d z e = all_get_d f xs i d z (and_right (f x) (all f xs) e)

pub all_append : {A : Type 0} (f : A → Bool) (xs ys : List A) → all f xs ≡ true → all f ys ≡ true → all f (xs ++ ys) ≡ true
all_append f [] ys e h = h
all_append f (x ∷ xs) ys e h = and_intro (f x) (all f (xs ++ ys)) (and_left (f x) (all f xs) e) (all_append f xs ys (and_right (f x) (all f xs) e) h)

pub All-all : {A : Type 0} (f : A → Bool) (xs : List A) → All (λ x. f x ≡ true) xs → all f xs ≡ true
All-all f [] h = refl
All-all f (x ∷ xs) h = and_intro (f x) (all f xs) h.0 (All-all f xs h.1)

-- a number that differs from each of a list is not in it
pub member-not : (x : ℕ) (ys : List ℕ) → all (λ y. not (eqb x y)) ys ≡ not (member x ys)
member-not x [] = refl
member-not x (y ∷ ys) = rw (eqb_comm x y, member-not x ys) (go (eqb y x))
  where
    go : (b : Bool) → (not b && not (member x ys)) ≡ not (b || member x ys)
    go true = refl
    go false = refl

-- ---- joined lists

pub join-take-drop : {A : Type 0} (k : ℕ) (xs : List (List A)) → join (take k xs) ++ join (drop k xs) ≡ join xs
join-take-drop zero xs = refl
join-take-drop (suc k) [] = refl
join-take-drop (suc k) (x ∷ xs) = append_assoc x _ _ ∙ ap (λ l. x ++ l) (join-take-drop k xs)

pub take-join : {A : Type 0} (k : ℕ) (xs : List (List A)) → take (length (join (take k xs))) (join xs) ≡ join (take k xs)
take-join k xs =
    subst (λ l. take (length (join (take k xs))) l ≡ join (take k xs)) (join-take-drop k xs)
    (take-append_seam (join (take k xs)) (join (drop k xs)))

pub drop-join : {A : Type 0} (k : ℕ) (xs : List (List A)) → drop (length (join (take k xs))) (join xs) ≡ join (drop k xs)
drop-join k xs =
    subst (λ l. drop (length (join (take k xs))) l ≡ join (drop k xs)) (join-take-drop k xs)
    (drop-append_seam (join (take k xs)) (join (drop k xs)))

-- ---- where a number stands

pub place_from-is : (xs : List ℕ) (j a i : ℕ) → place_from j xs a ≡ Some i → (m : ℕ) × (i ≡ j + m) × (m < length xs) × (get_or xs m 0 ≡ a)
place_from-is [] j a i e = let z : ◌≡◌ {A = ℕ} 0 1 = cc in absurd (omega arith)
place_from-is (x ∷ xs) j a i e = go (eqb x a) refl (place_from-is xs (suc j) a i) e
  where
    go : (b : Bool) → eqb x a ≡ b → (place_from (suc j) xs a ≡ Some i → (m : ℕ) × (i ≡ suc j + m) × (m < length xs) × (get_or xs m 0 ≡ a))
        → cond b (Some j) (place_from (suc j) xs a) ≡ Some i → (m : ℕ) × (i ≡ j + m) × (m < suc (length xs)) × (get_or (x ∷ xs) m 0 ≡ a)
    go true t ih e = let q : j ≡ i = cc in (0, omega arith, omega arith, eqb-true x a t)
    go false t ih e = let r = ih e in (suc r.0, omega (arith, r.1), omega (arith, r.2), r.3)

-- ---- loops over the first n elements

-- what a loop over the first n has before it at i: the element there, and what it has at i + 1; and nothing at the end
module _ {A : Type 0} (xs : List A) (n i : ℕ) where
  pub front_at : (d : A) → i < n → i < length xs → drop i (take n xs) ≡ get_or xs i d ∷ drop (i + 1) (take n xs)
  front_at d h k =
      let l : i < length (take n xs) = simp length-take (omega arith) in
      rw (drop-cons (take n xs) i d l, get_or-take n xs i d h, add-one)

  pub front-end : min n (length xs) ≤ i → drop i (take n xs) ≡ []
  front-end h = drop_of_length-le (take n xs) {i = i} (simp length-take (omega arith))

-- ---- any and keep

or_left_false : (a b : Bool) → (a || b) ≡ false → a ≡ false
or_left_false true b e = e
or_left_false false b e = refl

or_right_false : (a b : Bool) → (a || b) ≡ false → b ≡ false
or_right_false true b e = absurd (true≢false e)
or_right_false false b e = e

pub any_left : {A : Type 0} (p : A → Bool) (xs ys : List A) → any p (xs ++ ys) ≡ false → any p xs ≡ false
any_left p [] ys e = refl
any_left p (x ∷ xs) ys e = or-neither (p x) (any p xs) (or_left_false (p x) (any p (xs ++ ys)) e) (any_left p xs ys (or_right_false (p x) (any p (xs ++ ys)) e))

pub any_snoc : {A : Type 0} (p : A → Bool) (xs : List A) (y : A) → any p (xs ++ y ∷ []) ≡ (any p xs || p y)
any_snoc p [] y = or-false (p y)
any_snoc p (x ∷ xs) y = rw (any_snoc p xs y) (sym (or_assoc (p x) (any p xs) (p y)))

pub any_last : {A : Type 0} (p : A → Bool) (xs : List A) (y : A) → any p (xs ++ y ∷ []) ≡ false → p y ≡ false
any_last p [] y e = or_left_false (p y) false e
any_last p (x ∷ xs) y e = any_last p xs y (or_right_false (p x) (any p (xs ++ y ∷ [])) e)

-- an element that passes, and one that does not, by their places
pub any-none-at : {A : Type 0} (p : A → Bool) (xs : List A) (n j : ℕ) (d : A) → any p (take n xs) ≡ false → j < n → j < length xs → p (get_or xs j d) ≡ false
any-none-at p [] n j d e h k = absurd (omega arith)
any-none-at p (x ∷ xs) zero j d e h k = absurd (omega arith)
any-none-at p (x ∷ xs) (suc n) zero d e h k = or_left_false (p x) (any p (take n xs)) e
any-none-at p (x ∷ xs) (suc n) (suc j) d e h k = any-none-at p xs n j d (or_right_false (p x) (any p (take n xs)) e) (omega arith) (omega arith)

pub any-from : {A : Type 0} (p : A → Bool) (xs : List A) (j : ℕ) (d : A) → j < length xs → p (get_or xs j d) ≡ true → any p xs ≡ true
any-from p [] j d h e = absurd (omega arith)
any-from p (x ∷ xs) zero d h e = or-intro-left (p x) (any p xs) e
any-from p (x ∷ xs) (suc j) d h e = or-intro-right (p x) (any p xs) (any-from p xs j d (omega arith) e)

pub any-nowhere : {A : Type 0} (p : A → Bool) (xs : List A) (d : A) → ((j : ℕ) → j < length xs → p (get_or xs j d) ≡ false) → any p xs ≡ false
any-nowhere p [] d f = refl
any-nowhere p (x ∷ xs) d f = or-neither (p x) (any p xs) (f 0 (omega arith)) (any-nowhere p xs d (λ j h. f (suc j) (omega arith)))

pub any_where : {A : Type 0} (p : A → Bool) (xs : List A) → any p xs ≡ true → (m : ℕ) × (x : A) × (slice_get xs m ≡ Some x) × (p x ≡ true)
any_where p [] e = absurd (true≢false (sym e))
any_where {A} p (x ∷ xs) e = go (any_where p xs) (p x) refl e
  where
    go : (any p xs ≡ true → (m : ℕ) × (y : A) × (slice_get xs m ≡ Some y) × (p y ≡ true)) → (b : Bool) → p x ≡ b → (b || any p xs) ≡ true
        → (m : ℕ) × (y : A) × (slice_get (x ∷ xs) m ≡ Some y) × (p y ≡ true)
    go later true q h = (0, x, refl, q)
    go later false q h = let r = later h in (suc r.0, r.1, r.2, r.3)

pub keep-length : {A : Type 0} (f : A → Bool) (xs : List A) → length (keep f xs) ≤ length xs
keep-length f [] = omega arith
keep-length f (x ∷ xs) = go (keep-length f xs) (f x)
  where
    go : length (keep f xs) ≤ length xs → (b : Bool) → length (cond b (x ∷ keep f xs) (keep f xs)) ≤ suc (length xs)
    go k true = omega (arith, k)
    go k false = omega (arith, k)

-- a front of a front is a front of the whole
pub take-take : {A : Type 0} (n m : ℕ) (l : List A) → take n (take m l) ≡ take (length (take n (take m l))) l
take-take zero m l = refl
take-take (suc n) zero l = refl
take-take (suc n) (suc m) [] = refl
take-take (suc n) (suc m) (x ∷ l) = ap (λ r. x ∷ r) (take-take n m l)
