-- W6, proved of the calls: what a part is asked, and what an accepted one leaves, where the record is seen as the controller's history tells. Assumes nothing.
use mathlib.Core.Path.{◌≡◌, refl, sym, ap, ap₂, subst, ◌∙◌}
use mathlib.Core.Logic.{◌≢◌, ◌⊎◌, inl, inr}
use mathlib.Core.Bool.{Bool, true, false, ◌&&◌, ◌||◌, not, cond, true≢false}
use mathlib.Core.List.{List, ◌++◌}
use Rattle.std.specs.declared.option.Option.TheVariants.{None, Some}
use Prim.Native.Nat.{ℕ, ◌+◌, ◌*◌, ◌%◌, ◌≤◌}
use native.Mathlib.Omega.{arith}
use lib.Dec.{leb, ltb, eqb}
use lib.ListN.{length, take, drop, length-append}
use borrow.Author.Tests.{leb-true, le-leb, ltb-true, lt-ltb, eqb-true, eq-eqb, eqb-false, not-true, not-false}
use Rattle.little.specs.Little.{put}
use Rattle.little.proofs.Put.{put_is}
use Rattle.rules.specs.Settings.{mark_words, is_manager, place_of}
use Rattle.rules.specs.ControllerState.{state_most, state_ok}
use Rattle.rules.specs.Order.{Seen, Arriving, Part, offset_of, is_first, is_last, offset_ok, data_ok, follows_on, follows, joined_with, joined_ok, part_order}
use Rattle.rules.specs.Device.{controllers_of, front_ok, suspended_at, sequence_ok, sound_device}
use Rattle.rules.specs.History.{Did, suspended_by, open_by, joined_by, front_by}
use Rattle.rules.specs.declared.Sequence.{Sequence}
use Rattle.std.specs.declared.option.Option.{Option}
use Rattle.rules.specs.declared.Device.{Device}
use Rattle.rules.proofs.ListLaws.{and_left, and_right, and_intro, or_cases, some_inj}
use Rattle.rules.proofs.RefusalLaws.{Passed, verdict-done, verdict-passed}
use Rattle.rules.proofs.OrderLaws.{PartPassed, part_order-passed}
use Rattle.rules.proofs.SlotHistory.{joined_with-told}
use Rattle.record.specs.Record.{sound_with, controller_at, with_sequence, seen_in, others_in, front_of, front_in, arriving_in}
use Rattle.record.proofs.RecordLaws.{front_of-length, front_of-take, sound_device-sequence, sequence-within}
use Rattle.state_bytes.proofs.StateLaws.{state_ok-true, state_ok-is}
use Rattle.controller_state.proofs.ArrivalLaws.{joined-stored}
use Rattle.calls.specs.Calls.{Arrival, arrival, part_done, part_change}
use Rattle.demands.specs.Managers.{IsManager}
use Rattle.demands.specs.Parts.{begins_at, whole_by, StartsAnew, GoesBehind, IsFinal, IsMore, Fitting, Arrives}
use Rattle.demands.proofs.ManagerLaws.{manager-named, named-manager}
use Rattle.demands.proofs.ViewLaws.{Fits}
use Rattle.demands.proofs.AnswerLaws.{part-zero}

-- ---- indicators

anew-first : (p : Part) → StartsAnew p → is_first p ≡ true
anew-first p (inl e) = rw e
anew-first p (inr e) = rw e

behind-first : (p : Part) → GoesBehind p → is_first p ≡ false
behind-first p (inl e) = rw e
behind-first p (inr e) = rw e

final-last : (p : Part) → IsFinal p → is_last p ≡ true
final-last p (inl e) = rw e
final-last p (inr e) = rw e

more-last : (p : Part) → IsMore p → is_last p ≡ false
more-last p (inl e) = rw e
more-last p (inr e) = rw e

first-anew : (p : Part) → is_first p ≡ true → StartsAnew p
first-anew p e = or_cases (eqb p.indicator 1) (eqb p.indicator 3) (StartsAnew p) e (λ q. inl (eqb-true _ _ q)) (λ q. inr (eqb-true _ _ q))

last-final : (p : Part) → is_last p ≡ true → IsFinal p
last-final p e = or_cases (eqb p.indicator 2) (eqb p.indicator 3) (IsFinal p) e (λ q. inl (eqb-true _ _ q)) (λ q. inr (eqb-true _ _ q))

first-behind : (p : Part) → p.indicator ≤ 3 → is_first p ≡ false → GoesBehind p
first-behind p h e = go (eqb p.indicator 0) refl (eqb p.indicator 1) refl (eqb p.indicator 3) refl e
  where
    go : (x : Bool) → eqb p.indicator 0 ≡ x → (y : Bool) → eqb p.indicator 1 ≡ y → (z : Bool) → eqb p.indicator 3 ≡ z → (y || z) ≡ false → GoesBehind p
    go true q y r z t e = inl (eqb-true p.indicator 0 q)
    go false q true r z t e = absurd (true≢false e)
    go false q false r true t e = absurd (true≢false e)
    go false q false r false t e =
        let a = eqb-false p.indicator 0 q in
        let b = eqb-false p.indicator 1 r in
        let c = eqb-false p.indicator 3 t in
        inr (omega (arith, h, a, b, c))

-- a part to a controller that the settings lack is refused
pub part-unknown : (d : Device) (words : ℕ) (area : List ℕ) (b id : ℕ) (p : Part) → place_of d.settings id ≡ None → (part_change d words area b id p).answer.number ≢ 0
unfolding part_change
part-unknown d words area b id p e = λ z. go (sound_with d words && eqb (length area) state_most) (is_manager d.settings b) (rw e at z)
  where
    go : (x y : Bool) → (cond x (cond y (arrival 2 0 d area) (arrival 2 0 d area)) (arrival 1 0 d area)).answer.number ≢ 0
    go true true = λ z. absurd (omega (arith, z))
    go true false = λ z. absurd (omega (arith, z))
    go false y = λ z. absurd (omega (arith, z))

module _ (d : Device) (ws area : List ℕ) (qs : ℕ → List ℕ) (fits : Fits d ws area) (a i : ℕ) (h : List Did) (place : place_of d.settings a ≡ Some i) (sure : sound_device d ≡ true)
    (flag_is : (controller_at d (Some i)).suspended ≡ suspended_by false h) (front-is : front_in a d.sequence area ≡ front_by h) where
  -- ---- the sequence

  abbrev so_far : List ℕ
  so_far = joined_by h

  -- what the record says, by what the history tells
  open_told : open_by h ≡ true → d.sequence ≡ Some (record { owner = a; end = length so_far })
  open_told o = go d.sequence (front-is ∙ ap (λ b. cond b (Some so_far) None) o)
    where
      own : (owner end : ℕ) (b : Bool) → eqb owner a ≡ b → cond b (Some (front_of end area)) None ≡ Some so_far
          → ◌≡◌ {A = Option Sequence} (Some (record { owner = owner; end = end })) (Some (record { owner = a; end = length so_far }))
      own owner end true q e =
          let n : end ≡ length so_far = sym (front_of-length end area) ∙ ap length (some_inj e) in
          ap₂ (λ x y. Some (record { owner = x; end = y })) (eqb-true owner a q) n
      own owner end false q e = let z : ◌≡◌ {A = ℕ} 0 1 = cc in absurd (omega arith)

      go : (q : Option Sequence) → front_in a q area ≡ Some so_far → q ≡ Some (record { owner = a; end = length so_far })
      go None e = let z : ◌≡◌ {A = ℕ} 0 1 = cc in absurd (omega arith)
      go (Some seq) e = own seq.owner seq.end (eqb seq.owner a) refl e

  open_said : d.sequence ≡ Some (record { owner = a; end = length so_far }) → open_by h ≡ true
  open_said e = go (open_by h) (sym front-is ∙ ap (λ q. front_in a q area) e ∙ rw (eq-eqb a a refl))
    where
      go : (b : Bool) → cond b (Some so_far) None ≡ Some (front_of (length so_far) area) → b ≡ true
      go true q = refl
      go false q = let z : ◌≡◌ {A = ℕ} 0 1 = cc in absurd (omega arith)

  -- its bytes so far are whole dwords within the area, and stand at its front
  kept : open_by h ≡ true → front_ok (length so_far) ≡ true
  kept o =
      and_right (suspended_at (controllers_of d) (place_of d.settings a)) (front_ok (length so_far))
      (sym (ap (sequence_ok d.settings (controllers_of d)) (open_told o)) ∙ sound_device-sequence d sure)

  bytes-told : open_by h ≡ true → take (length so_far) area ≡ so_far
  bytes-told o =
      let few : length so_far ≤ length area = omega (arith, fits.bytes, sequence-within d sure a (length so_far) (open_told o)) in
      let e : front_in a d.sequence area ≡ Some (front_of (length so_far) area) = ap (λ q. front_in a q area) (open_told o) ∙ rw (eq-eqb a a refl) in
      sym (front_of-take (length so_far) area few) ∙ some_inj (sym e ∙ front-is ∙ ap (λ b. cond b (Some so_far) None) o)

  -- ---- a part

  module _ (b : ℕ) (p : Part) where
    abbrev seen : Seen
    seen = seen_in d (length ws) (Some i)

    abbrev arriving : Arriving
    arriving = arriving_in d.sequence area a

    abbrev whole : List ℕ
    whole = joined_with (front_in a d.sequence area) p

    whole-told : follows (front_in a d.sequence area) p ≡ true → whole ≡ whole_by h p
    whole-told f = joined_with-told h p (front_in a d.sequence area) front-is f

    sound : sound_with d (length ws) ≡ true
    unfolding sound_with
    sound = and_intro (sound_device d) _ sure (eq-eqb (length ws) mark_words fits.words)

    is-done : (part_change d (length ws) area b a p).answer.number ≡ 0
        → (part_change d (length ws) area b a p ≡ part_done d area a p) × PartPassed seen arriving p × (is_manager d.settings b ≡ true)
    unfolding part_change
    is-done e =
        let r = verdict-done (λ (x : Arrival). x.answer.number) (part_order d.settings b seen arriving p) (part_done d area a p) (λ n j. arrival n 0 d area) (λ n j. refl)
        (omega arith, (omega arith, (omega arith, (omega arith, (omega arith, (omega arith, (omega arith, (omega arith, (omega arith, tt))))))))) (rw place at e) in
        rw place (r.0, part_order-passed d.settings b seen arriving p r.1, r.1.1.0)

    -- ---- what it is asked

    fitting : PartPassed seen arriving p → Fitting h p
    fitting q =
        let counts = and_right (leb p.indicator 3) _ q.bytes in
        record {
          indicator = leb-true p.indicator 3 (and_left (leb p.indicator 3) _ q.bytes);
          counted = eqb-true (length p.bytes) (4 * p.count) (and_right (ltb 0 p.count || eqb p.indicator 2) _ counts);
          dwords =
              or_cases (ltb 0 p.count) (eqb p.indicator 2) ((1 ≤ p.count) ⊎ (p.indicator ≡ 2)) (and_left (ltb 0 p.count || eqb p.indicator 2) _ counts)
              (λ e. let k = ltb-true 0 p.count e in inl (omega (arith, k))) (λ e. inr (eqb-true p.indicator 2 e));
          anew = λ f. eqb-true (offset_of p) 0 (sym (ap (λ b. cond b (eqb (offset_of p) 0) (follows_on (front_in a d.sequence area) p)) (anew-first p f)) ∙ q.follow);
          behind = λ f. behind (open_by h) refl (sym (ap (λ b. cond b (eqb (offset_of p) 0) (follows_on (front_in a d.sequence area) p)) (behind-first p f)) ∙ q.follow);
          within = subst (λ x. length x ≤ 4096) (whole-told q.follow) (leb-true (length whole) state_most (and_left (leb (length whole) state_most) _ q.within));
          finished = λ f.
              let ok : state_ok whole ≡ true = sym (ap (λ b. not b || state_ok whole) (final-last p f)) ∙ and_right (leb (length whole) state_most) _ q.within in
              let s = state_ok-true (whole_by h p) (sym (ap state_ok (whole-told q.follow)) ∙ ok) in
              record { version = s.version; header = s.long; size = s.size };
        }
      where
        behind : (b : Bool) → open_by h ≡ b → follows_on (front_in a d.sequence area) p ≡ true → (open_by h ≡ true) × (begins_at p ≡ length (joined_by h))
        behind true o f =
            (o, eqb-true (offset_of p) (length so_far) (sym (ap (λ y. follows_on y p) (front-is ∙ ap (λ b. cond b (Some so_far) None) o)) ∙ f))
        behind false o f = absurd (true≢false (sym (sym (ap (λ y. follows_on y p) (front-is ∙ ap (λ b. cond b (Some so_far) None) o)) ∙ f)))

    -- ---- what is asked is enough

    module _ (f : Fitting h p) where
      follow : follows (front_in a d.sequence area) p ≡ true
      follow = go (is_first p) refl
        where
          go : (b : Bool) → is_first p ≡ b → cond b (eqb (offset_of p) 0) (follows_on (front_in a d.sequence area) p) ≡ true
          go true e = eq-eqb (offset_of p) 0 (f.anew (first-anew p e))
          go false e =
              let o = f.behind (first-behind p f.indicator e) in
              ap (λ y. follows_on y p) (front-is ∙ ap (λ b. cond b (Some so_far) None) o.0) ∙ eq-eqb (offset_of p) (length so_far) o.1

      dwords : (offset_of p % 4 ≡ 0) × (offset_of p ≤ 4096)
      dwords = go (is_first p) refl
        where
          go : (b : Bool) → is_first p ≡ b → (offset_of p % 4 ≡ 0) × (offset_of p ≤ 4096)
          go true e = let z = f.anew (first-anew p e) in (ap (λ n. n % 4) z, omega (arith, z))
          go false e =
              let o = f.behind (first-behind p f.indicator e) in
              let k = and_right (leb 4 (length so_far)) _ (kept o.0) in (
                ap (λ n. n % 4) o.1 ∙ eqb-true (length so_far % 4) 0 (and_right (leb (length so_far) state_most) _ k),
                omega (arith, o.1, leb-true (length so_far) state_most (and_left (leb (length so_far) state_most) _ k)),
              )

      offset-ok : offset_ok p ≡ true
      offset-ok = and_intro (eqb (offset_of p % 4) 0) _ (eq-eqb (offset_of p % 4) 0 dwords.0) (le-leb (offset_of p) state_most dwords.1)

      data-ok : data_ok p ≡ true
      data-ok =
          and_intro (leb p.indicator 3) _ (le-leb p.indicator 3 f.indicator)
          (and_intro (ltb 0 p.count || eqb p.indicator 2) _ (some-dwords f.dwords) (eq-eqb (length p.bytes) (4 * p.count) f.counted))
        where
          or_true_right : (b : Bool) → (b || true) ≡ true
          or_true_right true = refl
          or_true_right false = refl

          some-dwords : (1 ≤ p.count) ⊎ (p.indicator ≡ 2) → (ltb 0 p.count || eqb p.indicator 2) ≡ true
          some-dwords (inl k) = rw (lt-ltb 0 p.count (omega (arith, k)))
          some-dwords (inr k) = rw (eq-eqb p.indicator 2 k) (or_true_right (ltb 0 p.count))

      joined-ok : joined_ok (front_in a d.sequence area) p ≡ true
      joined-ok =
          subst (λ x. (leb (length x) state_most && (not (is_last p) || state_ok x)) ≡ true) (sym (whole-told follow))
          (and_intro (leb (length (whole_by h p)) state_most) _ (le-leb (length (whole_by h p)) state_most f.within) (go (is_last p) refl))
        where
          go : (b : Bool) → is_last p ≡ b → (not b || state_ok (whole_by h p)) ≡ true
          go false e = refl
          go true e =
              let s = f.finished (last-final p e) in
              state_ok-is (whole_by h p) (record { long = s.header; version = s.version; size = s.size })

      -- its bytes lie within the area
      inside : offset_of p + length p.bytes ≤ length area
      inside = omega (arith, extent (is_first p) refl f.within, fits.bytes)
        where
          extent : (b : Bool) → is_first p ≡ b → length (cond b p.bytes (so_far ++ p.bytes)) ≤ 4096 → offset_of p + length p.bytes ≤ 4096
          extent true e n = omega (arith, n, f.anew (first-anew p e))
          extent false e n = omega (arith, n, (f.behind (first-behind p f.indicator e)).1, length-append so_far p.bytes)

      may : IsManager d.settings b → suspended_by false h ≡ true → ((owner end : ℕ) → d.sequence ≡ Some (record { owner = owner; end = end }) → owner ≡ a) → (part_change d (length ws) area b a p).answer.number ≡ 0
      unfolding part_change
      may known s own =
          let passed : Passed (part_order d.settings b seen arriving p) =
          (and_intro (sound_with d (length ws)) _ sound (eq-eqb (length area) state_most fits.bytes), (named-manager d.settings b known, (refl, (flag_is ∙ s, (alone d.sequence refl, (offset-ok, (data-ok, (follow, (joined-ok, tt))))))))) in
          rw place (ap (λ (x : Arrival). x.answer.number) (verdict-passed (part_order d.settings b seen arriving p) (part_done d area a p) (λ n j. arrival n 0 d area) passed) ∙ part-zero d area a p)
        where
          alone : (q : Option Sequence) → d.sequence ≡ q → not (others_in a q) ≡ true
          alone None e = refl
          alone (Some seq) e = rw (eq-eqb seq.owner a (own seq.owner seq.end e))

    -- ---- what an accepted one leaves

    module _ (e : (part_change d (length ws) area b a p).answer.number ≡ 0) where
      passed : PartPassed seen arriving p
      passed = (is-done e).1

      told : whole ≡ whole_by h p
      told = whole-told passed.follow

      area_is : (part_change d (length ws) area b a p).area ≡ put area (offset_of p) p.bytes
      area_is = ap (λ (x : Arrival). x.area) (is-done e).0 ∙ go (is_last p)
        where
          go : (b : Bool) → (cond b (arrival 0 (length whole) (with_sequence d None) (put area (offset_of p) p.bytes)) (arrival 0 0 (with_sequence d (Some (record { owner = a; end = length whole }))) (put area (offset_of p) p.bytes))).area
              ≡ put area (offset_of p) p.bytes
          go true = refl
          go false = refl

      own : (part_change d (length ws) area b a p).area ≡ (take (begins_at p) area ++ p.bytes) ++ drop (begins_at p + length p.bytes) area
      own = area_is ∙ put_is area (offset_of p) p.bytes (inside (fitting passed))

      goes_on : IsMore p → (part_change d (length ws) area b a p).answer ≡ record { number = 0; whole = 0; device = with_sequence d (Some (record { owner = a; end = length (whole_by h p) })) }
      goes_on m = ap (λ (x : Arrival). x.answer) (is-done e).0 ∙ rw (more-last p m) (ap (λ x. record { number = 0; whole = 0; device = with_sequence d (Some (record { owner = a; end = length x })) }) told)

      yields : IsFinal p
          → ((part_change d (length ws) area b a p).answer ≡ record { number = 0; whole = length (whole_by h p); device = with_sequence d None })
          × (take (length (whole_by h p)) (part_change d (length ws) area b a p).area ≡ whole_by h p)
      yields f = (
        ap (λ (x : Arrival). x.answer) (is-done e).0 ∙ rw (final-last p f) (ap (λ x. record { number = 0; whole = length x; device = with_sequence d None }) told),
        ap (take (length (whole_by h p))) area_is
            ∙ subst (λ x. take (length x) (put area (offset_of p) p.bytes) ≡ x) told
            (joined-stored area a p fits.bytes d.sequence (sequence-within d sure) passed.follow (dwords (fitting passed)).1
            (leb-true (length whole) state_most (and_left (leb (length whole) state_most) _ passed.within))),
      )

      asked : IsManager d.settings b × (suspended_by false h ≡ true) × ((owner end : ℕ) → d.sequence ≡ Some (record { owner = owner; end = end }) → owner ≡ a) × Fitting h p
      asked = (
        manager-named d.settings b (is-done e).2,
        sym flag_is ∙ passed.suspended,
        (λ owner end q. eqb-true owner a (not-false (eqb owner a) (sym (ap (others_in a) q) ∙ not-true (others_in a d.sequence) passed.alone))),
        fitting passed,
      )

  pub arrives : Arrives (record { device = d; marks = ws; area = area; queues = qs }) h a
  arrives =
      record {
        under_way = (open_told, open_said);
        bytes = bytes-told;
        accepted = λ b p. ((λ e. asked b p e), (λ f. may b p f.3 f.0 f.1 f.2));
        own = λ b p e. own b p e;
        goes_on = λ b p e f. goes_on b p e f;
        yields = λ b p e f. yields b p e f;
      }
