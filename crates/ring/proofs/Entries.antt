-- Laws of `entry_at`, `queued` and `joined`: sizes, what stands where, a post, a take. All of it is the library's interface. Assumes nothing.
use Rattle.std.proofs.Common.{◌≡◌, ℕ, zero, suc, ◌+◌, ◌-◌, ◌*◌, ◌<◌, ◌≤◌, ◌≢◌, List, [], ◌∷◌, ◌++◌, length, get_or, take, drop, sym, refl, ap, ◌∙◌, append_assoc, append-nil, add-zero, add-suc, zero-add, add-one, arith, length-append, take_at, drop_at}
use native.Mathlib.Decide.{dec_lt}
use lib.ListN.{get_or-append}
use lib.Seq.{get_or_at}
use Rattle.little.specs.Little.{put}
use Rattle.little.proofs.Put.{put_is}
use Rattle.little.proofs.Records.{records-nil, records-append, records-one}
use Rattle.rules.specs.Queue.{joined, closing_entry}
use Rattle.ring.specs.Ring.{part, entry_at, place_after, queued}
use Rattle.ring.proofs.Places.{place_after-lt, place_after-low, place_after-other, place_after-add}
use Rattle.ring.proofs.Parts.{part_length, part-append, part-second, part-put-same, part-put-before, part-put-after}

-- ---- entry_at

pub entry_at-length : (area : List ℕ) (n i : ℕ) → length area ≡ 32 * n → i < n → length (entry_at area i) ≡ 32
unfolding entry_at
entry_at-length area n i e h = part_length area (32 * i) 32 (omega arith)

module _ (area e : List ℕ) (n i : ℕ) (whole : length area ≡ 32 * n) (inside : i < n) (size : length e ≡ 32) where
  -- what was stored in a place stands there
  pub entry_at-put-same : entry_at (put area (32 * i) e) i ≡ e
  unfolding entry_at
  entry_at-put-same = part-put-same area (32 * i) e 32 size (omega arith)

  -- and every other place is as it was
  pub entry_at-put-other : (j : ℕ) → j ≢ i → entry_at (put area (32 * i) e) j ≡ entry_at area j
  unfolding entry_at
  entry_at-put-other j d = go (dec_lt i j)
    where
      go : Dec (i < j) → part (put area (32 * i) e) (32 * j) 32 ≡ part area (32 * j) 32
      go (yes h) = part-put-after area (32 * i) e (32 * j) 32 (omega arith)
      go (no h) = part-put-before area (32 * i) e (32 * j) 32 (omega arith) (omega arith)

-- in the first of two lists, as the whole of the second, and at the front of a buffer
pub entry_at-first : (a b : List ℕ) (j : ℕ) → 32 * j + 32 ≤ length a → entry_at (a ++ b) j ≡ entry_at a j
unfolding entry_at
entry_at-first a b j h = part-append a b (32 * j) 32 h

pub entry_at-second : (a b : List ℕ) (j : ℕ) → length a ≡ 32 * j → length b ≡ 32 → entry_at (a ++ b) j ≡ b
unfolding entry_at
entry_at-second a b j h e = part-second a b (32 * j) 32 h e

pub entry_at-front : (buffer bytes : List ℕ) (j : ℕ) → 32 * j + 32 ≤ length bytes → length bytes ≤ length buffer → entry_at (put buffer 0 bytes) j ≡ entry_at bytes j
entry_at-front buffer bytes j h fits = rw (put_is buffer 0 bytes (omega arith)) (entry_at-first bytes (drop (0 + length bytes) buffer) j h)

pub closing_entry-length : length closing_entry ≡ 32
unfolding closing_entry
closing_entry-length = refl

-- ---- queued

module _ (area : List ℕ) (n place : ℕ) where
  pub queued-nil : queued area n place 0 ≡ []
  unfolding queued
  queued-nil = refl

  pub queued-more : (fill : ℕ) → queued area n place (fill + 1) ≡ queued area n place fill ++ entry_at area (place_after n place fill) ∷ []
  unfolding queued
  queued-more fill = rw add-one

  pub queued-length : (fill : ℕ) → length (queued area n place fill) ≡ fill
  unfolding queued
  queued-length zero = refl
  queued-length (suc fill) = rw length-append (omega (arith, queued-length fill))

  -- which entry is the j-th
  pub queued-at : (fill j : ℕ) → j < fill → get_or (queued area n place fill) j [] ≡ entry_at area (place_after n place j)
  unfolding queued
  queued-at zero j h = absurd (omega arith)
  queued-at (suc fill) j h = go (queued-at fill j) (dec_lt j fill)
    where
      go : (j < fill → get_or (queued area n place fill) j [] ≡ entry_at area (place_after n place j)) → Dec (j < fill)
          → get_or (queued area n place fill ++ entry_at area (place_after n place fill) ∷ []) j [] ≡ entry_at area (place_after n place j)
      go before (yes l) =
          get_or-append (queued area n place fill) (entry_at area (place_after n place fill) ∷ []) [] j (omega (arith, queued-length fill)) ∙ before l
      go before (no l) =
          let e : j ≡ fill = omega arith in
          rw e (get_or_at (queued area n place fill) (entry_at area (place_after n place fill)) [] [] fill (queued-length fill))

  -- the oldest i, and those from the i-th on
  pub queued-add : (i j : ℕ) → queued area n place (i + j) ≡ queued area n place i ++ queued area n (place_after n place i) j
  unfolding queued
  queued-add i zero = rw (add-zero, append-nil)
  queued-add i (suc j) = rw (add-suc, queued-add i j, place_after-add, append_assoc)

  -- what a take of m hands out, and what it leaves
  pub queued-take : (fill m : ℕ) → m ≤ fill → take m (queued area n place fill) ≡ queued area n place m
  queued-take fill m h =
      let e : fill ≡ m + (fill - m) = omega arith in
      rw (e, queued-add m (fill - m)) (take_at (queued area n place m) (queued area n (place_after n place m) (fill - m)) m (queued-length m))

  pub queued-drop : (fill m : ℕ) → m ≤ fill → queued area n (place_after n place m) (fill - m) ≡ drop m (queued area n place fill)
  queued-drop fill m h =
      let e : fill ≡ m + (fill - m) = omega arith in
      sym (ap (λ (k : ℕ). drop m (queued area n place k)) e ∙ rw (queued-add m (fill - m))
      (drop_at (queued area n place m) (queued area n (place_after n place m) (fill - m)) m (queued-length m)))

-- two rings whose places hold the same, one by one from the oldest on
pub queued-same : (a b : List ℕ) (n place n' place' fill : ℕ) → ((j : ℕ) → j < fill → entry_at a (place_after n place j) ≡ entry_at b (place_after n' place' j))
    → queued a n place fill ≡ queued b n' place' fill
unfolding queued
queued-same a b n place n' place' zero same = refl
queued-same a b n place n' place' (suc fill) same =
    rw (queued-same a b n place n' place' fill (λ j h. same j (omega arith)), same fill (omega arith))

-- ---- joined

pub joined-nil : joined [] ≡ []
unfolding joined
joined-nil = records-nil (λ e. e)

pub joined_snoc : (entries : List (List ℕ)) (e : List ℕ) → joined (entries ++ e ∷ []) ≡ joined entries ++ e
unfolding joined
joined_snoc entries e = rw (records-append, records-one)

pub joined-append : (a b : List (List ℕ)) → joined (a ++ b) ≡ joined a ++ joined b
unfolding joined
joined-append a b = records-append (λ e. e) a b

-- 32 bytes for each entry
pub queued-joined-length : (area : List ℕ) (n place fill : ℕ) → length area ≡ 32 * n → place < n → length (joined (queued area n place fill)) ≡ 32 * fill
unfolding queued
queued-joined-length area n place zero whole inside = rw joined-nil
queued-joined-length area n place (suc fill) whole inside =
    let newest : length (entry_at area (place_after n place fill)) ≡ 32 = entry_at-length area n (place_after n place fill) whole (place_after-lt n place inside fill) in
    rw (joined_snoc, length-append, queued-joined-length area n place fill whole inside, newest) (omega arith)

-- ---- a post

module _ (area e : List ℕ) (n place fill : ℕ) (whole : length area ≡ 32 * n) (inside : place < n) (room : fill < n) (size : length e ≡ 32) where
  -- an entry stored after the newest leaves the others as they were
  pub queued-put : queued (put area (32 * place_after n place fill) e) n place fill ≡ queued area n place fill
  queued-put =
      queued-same (put area (32 * place_after n place fill) e) area n place n place fill
      (λ j h.
      entry_at-put-other area e n (place_after n place fill) whole (place_after-lt n place inside fill) size (place_after n place j)
      (place_after-other n place inside j fill h room))

  -- and is the newest
  pub queued-post : queued (put area (32 * place_after n place fill) e) n place (fill + 1) ≡ queued area n place fill ++ e ∷ []
  queued-post =
      rw (
        queued-more,
        queued-put,
        entry_at-put-same area e n (place_after n place fill) whole (place_after-lt n place inside fill) size,
      )

-- ---- a take

module _ (area : List ℕ) (n place : ℕ) (whole : length area ≡ 32 * n) (inside : place < n) where
  -- the j-th of the entries, in their bytes
  pub joined_at : (fill j : ℕ) → j < fill → entry_at (joined (queued area n place fill)) j ≡ entry_at area (place_after n place j)
  unfolding queued
  joined_at zero j h = absurd (omega arith)
  joined_at (suc fill) j h = rw joined_snoc (go (joined_at fill j) (dec_lt j fill))
    where
      front : List ℕ
      front = joined (queued area n place fill)

      newest : List ℕ
      newest = entry_at area (place_after n place fill)

      size : length front ≡ 32 * fill
      size = queued-joined-length area n place fill whole inside

      go : (j < fill → entry_at front j ≡ entry_at area (place_after n place j)) → Dec (j < fill) → entry_at (front ++ newest) j ≡ entry_at area (place_after n place j)
      go before (yes l) = entry_at-first front newest j (omega (arith, size)) ∙ before l
      go before (no l) =
          let e : j ≡ fill = omega arith in
          rw e (entry_at-second front newest fill size (entry_at-length area n (place_after n place fill) whole (place_after-lt n place inside fill)))

  -- a buffer to whose front m entries were copied is a ring of m places with these entries
  pub queued-taken : (buffer : List ℕ) (m : ℕ) → 32 * m ≤ length buffer → queued (put buffer 0 (joined (queued area n place m))) m 0 m ≡ queued area n place m
  queued-taken buffer m fits = queued-same (put buffer 0 bytes) area m 0 n place m each
    where
      bytes : List ℕ
      bytes = joined (queued area n place m)

      size : length bytes ≡ 32 * m
      size = queued-joined-length area n place m whole inside

      each : (j : ℕ) → j < m → entry_at (put buffer 0 bytes) (place_after m 0 j) ≡ entry_at area (place_after n place j)
      each j h =
          rw (place_after-low m 0 (omega arith) j (omega arith), zero-add)
          (entry_at-front buffer bytes j (omega (arith, size)) (omega (arith, size)) ∙ joined_at m j h)
