-- Laws of `records` and `records_at`, for things of any type: where each record stands, the loops that write and that read them, both round trips.
-- A law that ends in `-again` or `-done` is the one before it as `search` wants it in a loop's proof: its premises have the shape of what is known there,
-- the invariant among them. All but `next` is the library's interface. Assumes nothing.
use Prim.Native.Nat.{ℕ, zero, suc, ◌+◌, ◌-◌, ◌*◌, ◌≤◌, ◌<◌}
use mathlib.Core.Path.{◌≡◌, refl, sym, ap, ◌∙◌}
use mathlib.Core.List.{List, [], ◌∷◌, ◌++◌, append-nil, append_assoc}
use native.Mathlib.Nat.{add-zero, add_comm, add_assoc, mul-zero, mul-suc, sub-zero}
use native.Mathlib.Numerals.{add-one}
use native.Mathlib.Omega.{arith}
use lib.ListN.{length, get_or, take, drop, set, length-append, drop_of_length-le}
use lib.Seq.{drop-cons, drop-drop, drop_at, drop-nil, take-add, take_at, take-nil, ext_get_or, drop-append_seam}
use Rattle.little.specs.Little.{put, records, records_at}
use Rattle.little.proofs.Put.{put-append, put-cons, put-nil}

-- `w` bytes more for one record more
next : (w i : ℕ) → w * suc i ≡ w + w * i
next w i = mul-suc w i ∙ add_comm (w * i) w

-- ---- records

module _ {A : Type 0} (f : A → List ℕ) where
  pub records-nil : records f [] ≡ []
  unfolding records
  records-nil = refl

  pub records-cons : (x : A) (xs : List A) → records f (x ∷ xs) ≡ f x ++ records f xs
  unfolding records
  records-cons x xs = refl

  pub records-one : (x : A) → records f (x ∷ []) ≡ f x
  unfolding records
  records-one x = append-nil (f x)

  pub records-append : (xs ys : List A) → records f (xs ++ ys) ≡ records f xs ++ records f ys
  unfolding records
  records-append [] ys = refl
  records-append (x ∷ xs) ys = rw (records-append xs ys, append_assoc)

  -- the end of a loop that writes xs
  pub records-done : (xs : List A) (l whole : List ℕ) (at i : ℕ) → length xs ≤ i → put l at (records f (drop i xs)) ≡ whole → l ≡ whole
  records-done xs l whole at i h inv = sym (rw (drop_of_length-le xs h, records-nil) (put-nil l at)) ∙ inv

-- records of w bytes each
module _ {A : Type 0} (f : A → List ℕ) (w : ℕ) (size : (x : A) → length (f x) ≡ w) where
  pub records-length : (xs : List A) → length (records f xs) ≡ w * length xs
  unfolding records
  records-length [] = sym (mul-zero w)
  records-length (x ∷ xs) = rw (length-append, size, records-length xs, next)

  pub records-drop : (xs : List A) (i : ℕ) → drop (w * i) (records f xs) ≡ records f (drop i xs)
  unfolding records
  records-drop xs zero = rw mul-zero
  records-drop [] (suc i) = drop-nil (w * suc i)
  records-drop (x ∷ xs) (suc i) =
      rw (next, ← drop-drop (w * i) w (f x ++ records f xs), drop_at (f x) (records f xs) w (size x), records-drop xs i)

  pub records-take : (xs : List A) (i : ℕ) → take (w * i) (records f xs) ≡ records f (take i xs)
  unfolding records
  records-take xs zero = rw mul-zero
  records-take [] (suc i) = take-nil (w * suc i)
  records-take (x ∷ xs) (suc i) =
      rw (next, take-add w (w * i) (f x ++ records f xs), take_at (f x) (records f xs) w (size x), drop_at (f x) (records f xs) w (size x), records-take xs i)

  -- where the i-th record stands, whatever follows the last
  pub records-at : (xs : List A) (q : List ℕ) (i : ℕ) (d : A) → i < length xs → drop (w * i) (records f xs ++ q) ≡ f (get_or xs i d) ++ (records f (drop (i + 1) xs) ++ q)
  unfolding records
  records-at [] q i d h = absurd (omega arith)
  records-at (x ∷ xs) q zero d h = rw (mul-zero, append_assoc)
  records-at (x ∷ xs) q (suc i) d h =
      rw (
        next,
        append_assoc (f x) (records f xs) q,
        ← drop-drop (w * i) w (f x ++ (records f xs ++ q)),
        drop_at (f x) (records f xs ++ q) w (size x),
        records-at xs q i d (omega arith),
        add-one i,
        add-one (suc i),
      )

  -- the same in a list that is known from `at` on
  pub records-here : (s q : List ℕ) (at : ℕ) (xs : List A) (i : ℕ) (d : A) → i < length xs → drop at s ≡ records f xs ++ q
      → drop (at + w * i) s ≡ f (get_or xs i d) ++ (records f (drop (i + 1) xs) ++ q)
  records-here s q at xs i d h e = rw (← drop-drop (w * i) at s, e) (records-at xs q i d h)

  -- a turn of a loop that writes xs from `at` on: the i-th is stored, the others are left
  pub records-again : (d : A) (xs : List A) (l l' whole : List ℕ) (at i : ℕ) → i < length xs → l' ≡ put l (at + w * i) (f (get_or xs i d))
      → put l (at + w * i) (records f (drop i xs)) ≡ whole → put l' (at + w * (i + 1)) (records f (drop (i + 1) xs)) ≡ whole
  records-again d xs l l' whole at i h e inv =
      let step : at + w * (i + 1) ≡ at + w * i + w = omega arith in
      rw (e, step) (sym (rw (drop-cons xs i d h, records-cons, put-append, size, add-one)) ∙ inv)

  -- one record more after those that are there
  pub records-snoc : (xs : List A) (x : A) (l : List ℕ) (at : ℕ) → put (put l at (records f xs)) (at + w * length xs) (f x) ≡ put l at (records f (xs ++ x ∷ []))
  records-snoc xs x l at = rw (records-append, records-one, put-append, records-length)

  pub records-snoc-again : (xs : List A) (x : A) (l₀ l l' : List ℕ) (at here : ℕ) → here ≡ at + w * length xs → l ≡ put l₀ at (records f xs) → l' ≡ put l here (f x)
      → l' ≡ put l₀ at (records f (xs ++ x ∷ []))
  records-snoc-again xs x l₀ l l' at here p e e' = rw (e', p, e) (records-snoc xs x l₀ at)

-- ---- records_at

module _ {A : Type 0} (read : List ℕ → ℕ → A) (w : ℕ) (s : List ℕ) where
  pub records_at-length : (at n : ℕ) → length (records_at read w s at n) ≡ n
  unfolding records_at
  records_at-length at zero = refl
  records_at-length at (suc n) = ap suc (records_at-length (at + w) n)

  pub records_at-at : (at n i : ℕ) (d : A) → i < n → get_or (records_at read w s at n) i d ≡ read s (at + w * i)
  unfolding records_at
  records_at-at at zero i d h = absurd (omega arith)
  records_at-at at (suc n) zero d h = rw (mul-zero, add-zero)
  records_at-at at (suc n) (suc i) d h = rw (next, ← add_assoc) (records_at-at (at + w) n i d (omega arith))

  -- a list whose elements are read one by one
  pub records_at-is : (at n : ℕ) (xs : List A) (d : A) → length xs ≡ n → ((i : ℕ) → i < n → read s (at + w * i) ≡ get_or xs i d) → records_at read w s at n ≡ xs
  records_at-is at n xs d e each =
      ext_get_or d (records_at read w s at n) xs (records_at-length at n ∙ sym e)
      (λ i h. records_at-at at n i d (omega (arith, records_at-length at n)) ∙ each i (omega (arith, records_at-length at n)))

  -- a loop that fills an array: its start, a turn and its end
  pub records_at-start : (a : List A) (at n : ℕ) → put a 0 (records_at read w s (at + w * 0) (n - 0)) ≡ put a 0 (records_at read w s at n)
  records_at-start a at n = rw (mul-zero, add-zero, sub-zero)

  pub records_at-turn : (a : List A) (at i n : ℕ) → i < n
      → put (set a i (read s (at + w * i))) (i + 1) (records_at read w s (at + w * (i + 1)) (n - (i + 1))) ≡ put a i (records_at read w s (at + w * i) (n - i))
  unfolding records_at
  records_at-turn a at i n h =
      let more : n - i ≡ suc (n - (i + 1)) = omega arith in
      let step : at + w * (i + 1) ≡ at + w * i + w = omega arith in
      rw (more, put-cons, step, add-one)

  pub records_at-again : (a whole : List A) (x : A) (at i n : ℕ) → i < n → x ≡ read s (at + w * i) → put a i (records_at read w s (at + w * i) (n - i)) ≡ whole
      → put (set a i x) (i + 1) (records_at read w s (at + w * (i + 1)) (n - (i + 1))) ≡ whole
  records_at-again a whole x at i n h e inv = rw e (records_at-turn a at i n h ∙ inv)

  pub records_at-end : (a : List A) (at i n : ℕ) → n ≤ i → put a i (records_at read w s at (n - i)) ≡ a
  unfolding records_at
  records_at-end a at i n h = let none : n - i ≡ 0 = omega arith in rw none (put-nil a i)

  pub records_at-done : (a whole : List A) (at i n : ℕ) → n ≤ i → put a i (records_at read w s at (n - i)) ≡ whole → a ≡ whole
  records_at-done a whole at i n h inv = sym (records_at-end a at i n h) ∙ inv

-- ---- round trips

module _ {A : Type 0} (f : A → List ℕ) (read : List ℕ → ℕ → A) (w : ℕ) where
  -- what was written is read back, if each thing that fits is
  module _ (size : (x : A) → length (f x) ≡ w) (Fit : A → Type 0) (here : (s q : List ℕ) (at : ℕ) (x : A) → Fit x → drop at s ≡ f x ++ q → read s at ≡ x) where
    -- in a list that is known from `at` on
    pub records_at-here : (s q : List ℕ) (at n : ℕ) (xs : List A) (d : A) → length xs ≡ n → ((i : ℕ) → i < n → Fit (get_or xs i d)) → drop at s ≡ records f xs ++ q
        → records_at read w s at n ≡ xs
    records_at-here s q at n xs d e fit h =
        records_at-is read w s at n xs d e
        (λ i l. here s (records f (drop (i + 1) xs) ++ q) (at + w * i) (get_or xs i d) (fit i l) (records-here f w size s q at xs i d (omega arith) h))

    pub records_at-records : (p q : List ℕ) (xs : List A) (d : A) → ((i : ℕ) → i < length xs → Fit (get_or xs i d))
        → records_at read w (p ++ (records f xs ++ q)) (length p) (length xs) ≡ xs
    records_at-records p q xs d fit =
        records_at-here (p ++ (records f xs ++ q)) q (length p) (length xs) xs d refl fit (drop-append_seam p (records f xs ++ q))

  -- what was read is written back, if each thing is
  pub records-records_at : (s : List ℕ) → ((at : ℕ) → at + w ≤ length s → f (read s at) ≡ take w (drop at s)) → (at n : ℕ) → at + w * n ≤ length s
      → records f (records_at read w s at n) ≡ take (w * n) (drop at s)
  unfolding records records_at
  records-records_at s back at zero h = rw mul-zero
  records-records_at s back at (suc n) h =
      let whole : w * suc n ≡ w + w * n = next w n in
      rw (whole, back at (omega arith), records-records_at s back (at + w) n (omega arith), take-add w (w * n) (drop at s), drop-drop w at s)
