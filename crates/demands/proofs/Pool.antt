-- W7, proved of the calls: what an accepted start and an accepted stop leave of the pool. Assumes nothing.
use mathlib.Core.Path.{◌≡◌, refl, sym, ap, subst, ◌∙◌}
use mathlib.Core.Logic.{◌≢◌}
use mathlib.Core.Bool.{Bool, true, false}
use mathlib.Core.List.{List}
use Rattle.std.specs.declared.option.Option.{Option}
use Rattle.std.specs.declared.option.Option.TheVariants.{None, Some}
use Prim.Native.Nat.{ℕ, ◌+◌, ◌*◌, ◌≤◌, ◌<◌}
use native.Mathlib.Omega.{arith}
use lib.Dec.{leb}
use lib.ListN.{length, get_or, take, replicate, length-set, length-map, get_or-replicate}
use lib.Seq.{ext_get_or, get_or-set_same, get_or-set_other}
use borrow.Author.Tests.{eq-eqb, ne_eqb, leb-true, leb-false}
use Rattle.bits.specs.Flat.{flat}
use Rattle.bits.proofs.Share.{get_share-at}
use Rattle.little.proofs.Put.{put-take-front}
use Rattle.pool.specs.Pool.{new_base, Packs}
use Rattle.pool.proofs.Pool.{packed-behind-at}
use Rattle.rules.specs.Lists.{sum}
use Rattle.rules.specs.Settings.{mark_words, most_units}
use Rattle.rules.specs.Units.{units}
use Rattle.rules.specs.StartData.{granularity_of, count_of, ranges_of, no_range, placed}
use Rattle.rules.specs.Device.{Held, held_units, held_of, no_share, share_in, share_of, shares_of, sound_device}
use Rattle.rules.specs.declared.Share.{Share}
use Rattle.rules.specs.declared.Tracking.TheVariants.{Off, On}
use Rattle.rules.specs.declared.Controller.{Controller}
use Rattle.rules.specs.declared.Device.{Device}
use Rattle.rules.proofs.OrderLaws.{StartPassed}
use Rattle.rules.proofs.StartLaws.{ranges_of-length}
use Rattle.ranges.proofs.RangeLaws.{HeldFacts, list_tests-facts}
use Rattle.record.specs.Record.{no_controller, controller_at, with_controller, seen_in, units_of}
use Rattle.record.proofs.RecordLaws.{shares_of-at, sound_device-facts, sound_device-inside}
use Rattle.calls.specs.Calls.{in_words, marks_at, bases_of, sizes_of, started, start_done, stop_done, packed_device, packed_words}
use Rattle.calls.proofs.PoolLaws.{get_d_map, shares_of-none, shares_of-length, shares_of-with, sizes_of-at, sizes_of-share, packed_at, packed-at, packed-eight, packed_alike, packed-size, new_base-sum, take_all, start-packs, start-packs-in}
use Rattle.plain.specs.Bytes.{packed_bytes}
use Rattle.demands.specs.Soundness.{base_at}
use Rattle.demands.specs.Demand2.{bit_of, size_at, Started, Stopped}
use Rattle.demands.proofs.MarkLaws.{clear-bit, clear-elsewhere, packs-flat, packs-length, packs-kept, packs-clear}
use Rattle.demands.proofs.ByteLaws.{packed_byte}
use Rattle.demands.proofs.ViewLaws.{Fits}

module _ (d : Device) (ws area : List ℕ) (fits : Fits d ws area) (sound : sound_device d ≡ true) (i : ℕ) (used : i < d.settings.count) where
  abbrev c : Controller
  c = controller_at d (Some i)

  most : d.settings.count ≤ 8
  most = (sound_device-facts d sound).count

  there : i < length d.controllers
  there = omega (arith, used, most, fits.controllers)

  -- ---- an accepted stop

  pub clears-stop : (g n : ℕ) → c.tracking ≡ On g n → 1 ≤ length c.ranges → c.suspended ≡ false
      → Stopped d ws i (stop_done in_words d ws (Some i)).answer.device (stop_done in_words d ws (Some i)).marks
  clears-stop g n t listed running =
      let size : held_units (held_of c) ≡ length (units g (take n c.ranges)) = rw t in
      let inside : c.base + held_units (held_of c) ≤ 64 * mark_words = omega (arith, size, sound_device-inside d i g n sound used there t listed) in
      let is : size_at d i ≡ held_units (held_of c) = sym (sizes_of-share d fits.controllers most i) ∙ sizes_of-at d fits.controllers most i used in
      record {
        record_is = rw running;
        clear = λ m h. clear-bit ws fits.words c.base (held_units (held_of c)) inside m (omega (arith, is, h));
        elsewhere = rw is (clear-elsewhere ws fits.words c.base (held_units (held_of c)) inside);
      }

-- ---- an accepted start

-- a controller that agrees with another in all but where its share begins
but-base : (k c : Controller) → k.suspended ≡ c.suspended → k.tracking ≡ c.tracking → k.ranges ≡ c.ranges → k.queue ≡ c.queue → k.manager ≡ c.manager
    → k ≡ record { tracking = c.tracking; manager = c.manager; base = k.base; suspended = c.suspended; ranges = c.ranges; queue = c.queue }
but-base k c s t r q m = rw (sym s, sym t, sym r, sym q, sym m)

-- a share that has bits begins where its controller says
own-base : (c : Controller) → 1 ≤ (share_of c).size → (share_of c).base ≡ c.base
own-base c = go (held_of c)
  where
    go : (o : Option Held) → 1 ≤ (share_in c.base o).size → (share_in c.base o).base ≡ c.base
    go None h = absurd (omega (arith, h))
    go (Some x) h = refl

module _ (d : Device) (ws area : List ℕ) (fits : Fits d ws area) (sound : sound_device d ≡ true) (i : ℕ) (used : i < d.settings.count) (b : ℕ) (x : List ℕ)
    (running : (controller_at d (Some i)).suspended ≡ false) (idle : (controller_at d (Some i)).tracking ≡ Off) (passed : StartPassed d.settings b (seen_in d (length ws) (Some i)) x) where
  abbrev new : Controller
  new = started (controller_at d (Some i)) b x

  abbrev e : Device
  e = with_controller d i new

  abbrev sizes : List ℕ
  sizes = sizes_of e

  abbrev d' : Device
  d' = packed_device e

  abbrev ws' : List ℕ
  ws' = packed_words ws (bases_of d) sizes i

  few : d.settings.count ≤ 8
  few = (sound_device-facts d sound).count

  eight : length e.controllers ≡ 8
  eight = length-set d.controllers i new ∙ fits.controllers

  facts : HeldFacts d.settings (granularity_of x) (count_of x) (ranges_of x)
  facts = list_tests-facts d.settings (granularity_of x) (count_of x) (ranges_of x) (sound_device-facts d sound).greatest passed.granularity passed.list

  first : take (count_of x) (placed (ranges_of x)) ≡ ranges_of x
  first = put-take-front (replicate 16 no_range) (count_of x) (ranges_of x) (ranges_of-length x) facts.few

  room : held_units (held_of new) + units_of d ≤ most_units
  room = rw first passed.room

  packs : Packs (flat ws) (bases_of d) sizes i
  packs = start-packs d fits.controllers sound i used idle new room ws fits.words

  -- the controller at a place, before it is packed
  before-own : get_or e.controllers i no_controller ≡ new
  before-own = get_or-set_same d.controllers i new no_controller (omega (arith, used, few, fits.controllers))

  before-other : (j : ℕ) → j ≢ i → get_or e.controllers j no_controller ≡ controller_at d (Some j)
  before-other j n = get_or-set_other d.controllers i j new no_controller n

  packed-is : (j : ℕ) → j < 8 → controller_at d' (Some j) ≡ packed_at sizes j (get_or e.controllers j no_controller)
  packed-is j h = packed-at e j (omega (arith, h, eight))

  -- how many bits the share at a place has
  same_size : (j : ℕ) → j < 8 → size_at d' j ≡ get_or sizes j 0
  same_size j h = packed-size e eight few j h ∙ sym (sizes_of-share e eight few j)

  own-size : size_at d' i ≡ length (units (granularity_of x) (ranges_of x))
  own-size = same_size i (omega (arith, used, few)) ∙ sizes_of-at e eight few i used ∙ ap (λ (k : Controller). held_units (held_of k)) before-own ∙ rw first

  other-size : (j : ℕ) → j < 8 → j ≢ i → size_at d' j ≡ size_at d j
  other-size j h n =
      packed-size e eight few j h
      ∙ ap (λ (l : List Share). (get_or l j no_share).size) (shares_of-with d fits.controllers few i new used)
      ∙ ap (λ (a : Share). a.size) (get_or-set_other (shares_of d) i j (share_of new) no_share n)

  all-sizes : sizes_of d' ≡ sizes
  all-sizes =
      ext_get_or 0 (sizes_of d') sizes (length-map (shares_of d') (λ (a : Share). a.size) ∙ long ∙ sym (length-map (shares_of e) (λ (a : Share). a.size) ∙ shares_of-length e eight few))
      (λ j h. sizes_of-share d' (packed-eight e eight few) few j ∙ same_size j (omega (arith, h, length-map (shares_of d') (λ (a : Share). a.size), long)))
    where
      long : length (shares_of d') ≡ 8
      long = shares_of-length d' (packed-eight e eight few) few

  -- where it begins
  new-base : (j : ℕ) → j < 8 → 1 ≤ size_at d' j → base_at d' j ≡ new_base sizes j
  new-base j h k = ap (λ (c : Controller). c.base) (packed-is j h) ∙ rw (ne_eqb (get_or sizes j 0) 0 (λ z. omega (arith, z, k, same_size j h)))

  kept-base : (j : ℕ) → j < 8 → j ≢ i → size_at d' j ≡ 0 → base_at d' j ≡ base_at d j
  kept-base j h n k =
      ap (λ (c : Controller). c.base) (packed-is j h) ∙ rw (eq-eqb (get_or sizes j 0) 0 (omega (arith, k, same_size j h))) (ap (λ (c : Controller). c.base) (before-other j n))

  old_base : (j : ℕ) → j < 8 → 1 ≤ size_at d j → get_or (bases_of d) j 0 ≡ base_at d j
  old_base j h k = get_d_map (λ (a : Share). a.base) (shares_of d) j no_share 0 refl ∙ go (leb d.settings.count j) refl
    where
      go : (b : Bool) → leb d.settings.count j ≡ b → (get_or (shares_of d) j no_share).base ≡ base_at d j
      go true q = absurd (omega (arith, k, ap (λ (a : Share). a.size) (shares_of-none d fits.controllers few j (leb-true d.settings.count j q))))
      go false q =
          let s = shares_of-at d j (leb-false d.settings.count j q) (omega (arith, h, fits.controllers)) in
          ap (λ (a : Share). a.base) s ∙ own-base (controller_at d (Some j)) (subst (λ (a : Share). 1 ≤ a.size) s k)

  -- a mark of it
  bit-of : (l : List ℕ) (base n : ℕ) (m : ℕ) → m < n → bit_of l base m ≡ get_or (marks_at l base n) m false
  bit-of l base n m h = sym (get_share-at (flat l) base n m false h)

  moved : (j m : ℕ) → j < 8 → j ≢ i → m < size_at d j → bit_of ws' (base_at d' j) m ≡ bit_of ws (base_at d j) m
  moved j m h n k =
      let size : get_or sizes j 0 ≡ size_at d j = sym (same_size j h) ∙ other-size j h n in
      ap (λ b. bit_of ws' b m) (new-base j h (omega (arith, k, other-size j h n)))
      ∙ bit-of ws' (new_base sizes j) (get_or sizes j 0) m (omega (arith, k, size))
      ∙ ap (λ l. get_or l m false) (packs-kept ws fits.words (bases_of d) sizes i packs j h n)
      ∙ sym (bit-of ws (get_or (bases_of d) j 0) (get_or sizes j 0) m (omega (arith, k, size)))
      ∙ ap (λ b. bit_of ws b m) (old_base j h (omega (arith, k)))

  -- W9: and a byte of it
  pub moved-byte : (bs : List ℕ) → length bs ≡ most_units → (j m : ℕ) → j < 8 → j ≢ i → m < size_at d j
      → get_or (packed_bytes bs (bases_of d) sizes i) (base_at d' j + m) 0 ≡ get_or bs (base_at d j + m) 0
  moved-byte bs long j m h n k =
      let size : get_or sizes j 0 ≡ size_at d j = sym (same_size j h) ∙ other-size j h n in
      ap (λ b. get_or (packed_bytes bs (bases_of d) sizes i) (b + m) 0) (new-base j h (omega (arith, k, other-size j h n)))
      ∙ packed_byte bs (bases_of d) sizes i (start-packs-in d fits.controllers sound i used idle new room bs long) j m h n (omega (arith, k, size))
      ∙ ap (λ b. get_or bs (b + m) 0) (old_base j h (omega (arith, k)))

  clear : (m : ℕ) → m < size_at d' i → bit_of ws' (base_at d' i) m ≡ false
  clear m k =
      let h : i < 8 = omega (arith, used, few) in
      ap (λ b. bit_of ws' b m) (new-base i h (omega (arith, k)))
      ∙ bit-of ws' (new_base sizes i) (get_or sizes i 0) m (omega (arith, k, same_size i h))
      ∙ ap (λ l. get_or l m false) (packs-clear ws fits.words (bases_of d) sizes i packs h)
      ∙ get_or-replicate (get_or sizes i 0) m false false (omega (arith, k, same_size i h))

  last-base : new_base sizes 8 ≡ sum (sizes_of d')
  last-base =
      new_base-sum sizes 8
      ∙ ap sum (take_all sizes 8 (omega (arith, length-map (shares_of e) (λ (a : Share). a.size), shares_of-length e eight few)))
      ∙ ap sum (sym all-sizes)

  pub packs-start : Started d ws b i (granularity_of x) (count_of x) (ranges_of x) (start_done in_words d ws b x (Some i)).answer.device (start_done in_words d ws b x (Some i)).marks
  packs-start =
      record {
        settings = refl;
        sequence = refl;
        controllers = packed-eight e eight few ∙ sym fits.controllers;
        own =
            let h : i < 8 = omega (arith, used, few) in
            let a = packed_alike e eight few i (get_or e.controllers i no_controller) in
            but-base (controller_at d' (Some i)) (record { tracking = On (granularity_of x) (count_of x); manager = b; base = 0; suspended = false; ranges = placed (ranges_of x); queue = (controller_at d (Some i)).queue })
            (ap (λ (k : Controller). k.suspended) (packed-is i h) ∙ a.0 ∙ ap (λ (k : Controller). k.suspended) before-own ∙ running)
            (ap (λ (k : Controller). k.tracking) (packed-is i h) ∙ a.1 ∙ ap (λ (k : Controller). k.tracking) before-own)
            (ap (λ (k : Controller). k.ranges) (packed-is i h) ∙ a.2 ∙ ap (λ (k : Controller). k.ranges) before-own)
            (ap (λ (k : Controller). k.queue) (packed-is i h) ∙ a.3 ∙ ap (λ (k : Controller). k.queue) before-own)
            (ap (λ (k : Controller). k.manager) (packed-is i h) ∙ a.4 ∙ ap (λ (k : Controller). k.manager) before-own);
        other = λ j h n.
            let a = packed_alike e eight few j (get_or e.controllers j no_controller) in
            but-base (controller_at d' (Some j)) (controller_at d (Some j))
            (ap (λ (k : Controller). k.suspended) (packed-is j h) ∙ a.0 ∙ ap (λ (k : Controller). k.suspended) (before-other j n))
            (ap (λ (k : Controller). k.tracking) (packed-is j h) ∙ a.1 ∙ ap (λ (k : Controller). k.tracking) (before-other j n))
            (ap (λ (k : Controller). k.ranges) (packed-is j h) ∙ a.2 ∙ ap (λ (k : Controller). k.ranges) (before-other j n))
            (ap (λ (k : Controller). k.queue) (packed-is j h) ∙ a.3 ∙ ap (λ (k : Controller). k.queue) (before-other j n))
            (ap (λ (k : Controller). k.manager) (packed-is j h) ∙ a.4 ∙ ap (λ (k : Controller). k.manager) (before-other j n));
        size = own-size;
        sizes = other-size;
        begins = λ j h k. new-base j h k ∙ new_base-sum sizes j ∙ ap (λ l. sum (take j l)) (sym all-sizes);
        none = kept-base;
        moved = moved;
        clear = clear;
        behind = λ b h.
            ap (λ l. get_or l b false) (packs-flat ws fits.words (bases_of d) sizes i packs)
            ∙ packed-behind-at (flat ws) (bases_of d) sizes i packs b (omega (arith, h, last-base));
        words = packs-length ws fits.words (bases_of d) sizes i packs ∙ sym fits.words;
      }
