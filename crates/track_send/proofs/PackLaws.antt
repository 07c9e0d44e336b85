-- Laws of an array that is made of another place by place, and of controllers that are given their new places; of the shares with a new one among them; and of
-- packed words. Assumes nothing.
use mathlib.Core.Path.{◌≡◌, refl, sym, ap, ◌∙◌}
use mathlib.Core.Logic.{◌≢◌}
use mathlib.Core.Bool.{Bool, true, false}
use mathlib.Core.List.{List, [], ◌∷◌, map}
use Prim.Native.Nat.{ℕ, zero, suc, ◌+◌, ◌≤◌, ◌<◌}
use native.Mathlib.Omega.{arith}
use lib.Dec.{eqb}
use lib.ListN.{length, get_or, set, take, length-map, length-set}
use lib.Seq.{ext_get_or, get_or-set_same, get_or-set_other}
use borrow.Author.Tests.{eqb-true, eqb-false, eq-eqb, ne_eqb}
use Rattle.bits.specs.Flat.{flat, Words}
use Rattle.bits.proofs.Pack.{pack-only}
use Rattle.rules.specs.Settings.{most_units}
use Rattle.rules.specs.Units.{units}
use Rattle.rules.specs.Device.{no_share}
use Rattle.rules.specs.declared.Share.{Share}
use Rattle.rules.specs.declared.Controller.{Controller}
use Rattle.rules.specs.declared.Device.{Device}
use Rattle.record.specs.Record.{no_controller}
use Rattle.record.proofs.RecordLaws.{sound_device-facts}
use Rattle.pool.specs.Pool.{new_base, packed, Packs}
use Rattle.calls.specs.Calls.{with_base, bases_of, sizes_of, packed_from, packed_words}
use Rattle.calls.proofs.PoolLaws.{packed_at, packed_from-at, packed_from-length, sizes-with, sizes-fit, start-packs-in}
use Rattle.track_send.specs.declared.Admitted.{Admitted}
use Rattle.track_send.specs.Inner.{tracked, tracking, Starts}

-- ---- an array that is made of another, place by place

pub mapped : (f : Share → ℕ) (shares : List Share) (xs : List ℕ) → length xs ≡ length shares → ((j : ℕ) → j < length shares → get_or xs j 0 ≡ f (get_or shares j no_share)) → xs ≡ map f shares
mapped f shares xs e h = ext_get_or 0 xs (map f shares) (e ∙ sym (length-map shares f)) (λ j k. h j (omega (arith, k, e)) ∙ sym (at shares j (omega (arith, k, e))))
  where
    at : (ys : List Share) (j : ℕ) → j < length ys → get_or (map f ys) j 0 ≡ f (get_or ys j no_share)
    at [] j k = absurd (omega arith)
    at (y ∷ ys) zero k = refl
    at (y ∷ ys) (suc j) k = at ys j (omega arith)

-- ---- controllers that are given their new places

pub record Based (sizes : List ℕ) (old new : List Controller) (i : ℕ) : Type 0 where
  pub sized : length new ≡ length old
  pub so_far : (j : ℕ) → j < i → j < length old → get_or new j no_controller ≡ packed_at sizes j (get_or old j no_controller)
  pub rest : (j : ℕ) → i ≤ j → get_or new j no_controller ≡ get_or old j no_controller

module _ (sizes : List ℕ) (old : List Controller) where
  pub based-none : Based sizes old old 0
  based-none = record { sized = refl; so_far = λ j h k. absurd (omega (arith, h)); rest = λ j h. refl }

  -- one that has a share, and one that has none
  pub based-moved : (new : List Controller) (i v : ℕ) → Based sizes old new i → i < length old → get_or sizes i 0 ≢ 0 → v ≡ new_base sizes i
      → Based sizes old (set new i (with_base (get_or new i no_controller) v)) (i + 1)
  based-moved new i v s h n e =
      record {
        sized = length-set new i (with_base (get_or new i no_controller) v) ∙ s.sized;
        so_far = λ j k l. go j k l (eqb j i) refl;
        rest = λ j k. get_or-set_other new i j (with_base (get_or new i no_controller) v) no_controller (λ z. absurd (omega (arith, k, z))) ∙ s.rest j (omega arith);
      }
    where
      go : (j : ℕ) → j < i + 1 → j < length old → (b : Bool) → eqb j i ≡ b → get_or (set new i (with_base (get_or new i no_controller) v)) j no_controller ≡ packed_at sizes j (get_or old j no_controller)
      go j k l true q =
          let z = eqb-true j i q in
          rw (z, get_or-set_same new i (with_base (get_or new i no_controller) v) no_controller (omega (arith, h, s.sized)), s.rest i (omega arith), ne_eqb (get_or sizes i 0) 0 n, e)
      go j k l false q = let z = eqb-false j i q in get_or-set_other new i j (with_base (get_or new i no_controller) v) no_controller z ∙ s.so_far j (omega (arith, k, z)) l

  pub based-left : (new : List Controller) (i : ℕ) → Based sizes old new i → get_or sizes i 0 ≡ 0 → Based sizes old new (i + 1)
  based-left new i s z = record { sized = s.sized; so_far = λ j k l. go j k l (eqb j i) refl; rest = λ j k. s.rest j (omega arith) }
    where
      go : (j : ℕ) → j < i + 1 → j < length old → (b : Bool) → eqb j i ≡ b → get_or new j no_controller ≡ packed_at sizes j (get_or old j no_controller)
      go j k l true q = let y = eqb-true j i q in rw (y, eq-eqb (get_or sizes i 0) 0 z) (s.rest i (omega arith))
      go j k l false q = let y = eqb-false j i q in s.so_far j (omega (arith, k, y)) l

  pub based-all : (new : List Controller) (i : ℕ) → Based sizes old new i → length old ≤ i → new ≡ packed_from sizes 0 old
  based-all new i s h =
      ext_get_or no_controller new (packed_from sizes 0 old) (s.sized ∙ sym (packed_from-length sizes old 0))
      (λ j k.
      s.so_far j (omega (arith, k, s.sized, h)) (omega (arith, k, s.sized))
      ∙ sym (packed_from-at sizes old 0 j (omega (arith, k, s.sized)) ∙ ap (λ n. packed_at sizes n (get_or old j no_controller)) (omega arith)))

-- a record that differs in its controllers alone
pub device-is : (e d : Device) (cs : List Controller) → e.settings ≡ d.settings → e.controllers ≡ cs → e.sequence ≡ d.sequence
    → e ≡ record { settings = d.settings; controllers = cs; sequence = d.sequence }
device-is e d cs p q r = rw (sym p, sym q, sym r)

-- ---- the shares with that of a start among them

module _ (d : Device) (eight : length d.controllers ≡ 8) (a : Admitted) (s : Starts d a) where
  -- its place is one of eight
  pub starts-below : a.place < 8
  starts-below = omega (arith, s.used, (sound_device-facts d s.sound).count)

  module _ (m : ℕ) where
    -- the sizes with its own are those of the record in which the controller is tracked
    pub starts-sizes : set (sizes_of d) a.place (length (units a.granularity (take a.count a.ranges))) ≡ sizes_of (tracking d m a)
    starts-sizes = sym (sizes-with d eight (sound_device-facts d s.sound).count a.place (tracked d m a) s.used)

    -- they fit
    pub starts_fit : new_base (sizes_of (tracking d m a)) 8 ≤ 16384
    starts_fit = sizes-fit d eight s.sound a.place s.used s.off (tracked d m a) s.room

    -- they may be packed, in whatever holds the pool's marks
    pub starts-packs : {A : Type 0} (l : List A) → length l ≡ most_units → Packs l (bases_of d) (sizes_of (tracking d m a)) a.place
    starts-packs = start-packs-in d eight s.sound a.place s.used s.off (tracked d m a) s.room

-- ---- words that have the shares packed

pub packed-words : (ws ws' bases sizes : List ℕ) (i : ℕ) → length ws' ≡ length ws → Words ws' → flat ws' ≡ packed (flat ws) bases sizes i → ws' ≡ packed_words ws bases sizes i
unfolding packed_words
packed-words ws ws' bases sizes i n h e = pack-only (length ws) ws' (packed (flat ws) bases sizes i) n h e
