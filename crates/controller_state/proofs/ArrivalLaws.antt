-- Laws of a part of a state: its tests, one by one and together, and what the call answers, case by case of its table. Assumes nothing.
use mathlib.Core.Path.{◌≡◌, refl, sym, ap, ◌∙◌}
use mathlib.Core.Logic.{◌≢◌}
use mathlib.Core.Bool.{Bool, true, false, ◌&&◌, ◌||◌, not, cond, and-true, and-false, true≢false}
use mathlib.Core.List.{List, ◌++◌}
use Rattle.std.specs.declared.option.Option.TheVariants.{None, Some}
use Prim.Native.Nat.{ℕ, ◌+◌, ◌*◌, ◌%◌, ◌^◌, ◌≤◌}
use native.Mathlib.Omega.{arith}
use lib.Dec.{leb, eqb}
use lib.ListN.{length, take, drop, get_or}
use borrow.Author.Tests.{leb-true, eq-eqb, ne_eqb, eqb-true}
use Rattle.little.specs.Little.{put}
use Rattle.rules.specs.Refusals.{verdict, refusal, number_of}
use Rattle.rules.specs.declared.Refusal.{Refusal}
use Rattle.rules.specs.Settings.{is_manager, place_of}
use Rattle.rules.specs.ControllerState.{state_most, state_ok}
use Rattle.rules.specs.Order.{Part, offset_of, is_first, is_last, is_offset, data_ok, follows_on, follows, so_far, joined_with, part_tests, part_order}
use Rattle.rules.specs.declared.Sequence.{Sequence}
use Rattle.std.specs.declared.option.Option.{Option}
use Rattle.rules.specs.declared.Device.{Device}
use Rattle.rules.proofs.ListLaws.{and_left, and_right}
use Rattle.rules.proofs.RefusalLaws.{Passed, refusal-none, passes-Passed, verdict-refused, verdict-passed}
use Rattle.record.specs.Record.{no_controller, with_sequence, others_in, front_of, front_in, arriving_in, where_by, seen_in}
use Rattle.std.specs.declared.result.Result.TheVariants.{Err, Ok}
use Rattle.record.proofs.RecordLaws.{front_of-length, front_of-take, Located, where_is-at, where_by-tests, where_by-at}
use Rattle.state_bytes.specs.Parts.{assembled}
use Rattle.state_bytes.proofs.PartLaws.{assembled-length, assembled-put}
use Rattle.calls.specs.declared.StateSet.{StateSet}
use Rattle.calls.specs.Calls.{Arrival, arrival, part_done, part_change}
use Rattle.controller_state.specs.Inner.{goes_on, is_next, ended_at}

-- ---- the offset

-- one that passes has its higher word clear
pub offset-is : (low high : ℕ) → is_offset (low + 2 ^ 32 * high) ≡ true → low + 2 ^ 32 * high ≡ low
offset-is low high f = let h : low + 2 ^ 32 * high ≤ 4096 = leb-true (low + 2 ^ 32 * high) 4096 (and_right (eqb ((low + 2 ^ 32 * high) % 4) 0) _ f) in omega arith

pub offset-within : (low high : ℕ) → is_offset (low + 2 ^ 32 * high) ≡ true → low ≤ 4096
offset-within low high f = let h : low + 2 ^ 32 * high ≤ 4096 = leb-true (low + 2 ^ 32 * high) 4096 (and_right (eqb ((low + 2 ^ 32 * high) % 4) 0) _ f) in omega arith

-- ---- the bytes so far

-- an open sequence ends within the area
abbrev pub Within : Option Sequence → Type 0
Within q = (owner end : ℕ) → q ≡ Some (record { owner = owner; end = end }) → end ≤ 4096

module _ (area : List ℕ) (id : ℕ) (p : Part) where
  -- 26 is asked of the end alone
  follows_next : (q : Option Sequence) → follows (front_in id q area) p ≡ is_next q id p.indicator (offset_of p)
  follows_next q = ap (λ b. cond (is_first p) (eqb (offset_of p) 0) b) (go q)
    where
      own : (owner end : ℕ) (b : Bool) → follows_on (cond b (Some (front_of end area)) None) p ≡ (b && eqb (offset_of p) end)
      own owner end true = ap (eqb (offset_of p)) (front_of-length end area)
      own owner end false = refl

      go : (q : Option Sequence) → follows_on (front_in id q area) p ≡ goes_on q id (offset_of p)
      go None = refl
      go (Some seq) = own seq.owner seq.end (eqb seq.owner id)

  -- the whole that a part makes which follows: the area's bytes before it, and then its own
  joined-assembled : length area ≡ 4096 → (q : Option Sequence) → Within q → is_next q id p.indicator (offset_of p) ≡ true
      → joined_with (front_in id q area) p ≡ assembled area (offset_of p) p.bytes
  unfolding assembled
  joined-assembled l q w n = go (is_first p) q refl n
    where
      own : (owner end : ℕ) → q ≡ Some (record { owner = owner; end = end }) → (b : Bool) → (b && eqb (offset_of p) end) ≡ true
          → (so_far (cond b (Some (front_of end area)) None) ++ p.bytes) ≡ (take (offset_of p) area ++ p.bytes)
      own owner end e true h =
          let z : offset_of p ≡ end = eqb-true (offset_of p) end h in
          ap (λ x. x ++ p.bytes) (front_of-take end area (omega (arith, l, w owner end e)) ∙ ap (λ k. take k area) (sym z))
      own owner end e false h = absurd (true≢false (sym h))

      go : (b : Bool) (r : Option Sequence) → q ≡ r → cond b (eqb (offset_of p) 0) (goes_on r id (offset_of p)) ≡ true
          → cond b p.bytes (so_far (front_in id r area) ++ p.bytes) ≡ (take (offset_of p) area ++ p.bytes)
      go true r e h = let z : offset_of p ≡ 0 = eqb-true (offset_of p) 0 h in rw z
      go false None e h = absurd (true≢false (sym h))
      go false (Some seq) e h = own seq.owner seq.end e (eqb seq.owner id) h

  -- so the area's first bytes, once it is stored, are the bytes so far
  pub joined-stored : length area ≡ 4096 → (q : Option Sequence) → Within q → follows (front_in id q area) p ≡ true → offset_of p ≤ 4096
      → length (joined_with (front_in id q area) p) ≤ 4096
      → take (length (joined_with (front_in id q area) p)) (put area (offset_of p) p.bytes) ≡ joined_with (front_in id q area) p
  joined-stored l q w f o n =
      let e = joined-assembled l q w (sym (follows_next q) ∙ f) in
      let size : length (joined_with (front_in id q area) p) ≡ offset_of p + length p.bytes = ap length e ∙ assembled-length area (offset_of p) p.bytes (omega (arith, l, o)) in
      ap (λ k. take k (put area (offset_of p) p.bytes)) size ∙ assembled-put area (offset_of p) p.bytes (omega (arith, l, n, size)) ∙ sym e

-- ---- the tests together

module _ (q : Option Sequence) (area : List ℕ) (id : ℕ) (p : Part) (o : others_in id q ≡ false) (f : is_offset (offset_of p) ≡ true) (d : data_ok p ≡ true) where
  pub part_next : is_next q id p.indicator p.low ≡ false → 26 ≡ refusal (part_tests (arriving_in q area id) p)
  part_next n = let e = offset-is p.low p.high f in rw (o, f, d, follows_next area id p q, e, n)

  -- past 26 it is the whole that decides: the area's bytes before the part, and then its own
  module _ (l : length area ≡ 4096) (w : Within q) (n : is_next q id p.indicator p.low ≡ true) where
    pub part-whole : cond (leb (p.low + length p.bytes) state_most && (not (is_last p) || state_ok (assembled area p.low p.bytes))) 0 27
        ≡ refusal (part_tests (arriving_in q area id) p)
    part-whole =
        let e = offset-is p.low p.high f in
        let next : is_next q id p.indicator (offset_of p) ≡ true = rw e n in
        let size : length (assembled area p.low p.bytes) ≡ p.low + length p.bytes = assembled-length area p.low p.bytes (omega (arith, l, offset-within p.low p.high f)) in
        let whole : joined_with (front_in id q area) p ≡ assembled area p.low p.bytes = joined-assembled area id p l q w next ∙ ap (λ k. assembled area k p.bytes) e in
        rw (o, f, d, follows_next area id p q, next, whole, size)

-- ---- the call, case by case

-- what it comes to, as its contract says it
pub leaves : (x : Arrival) (r : StateSet) (area : List ℕ) → x ≡ record { answer = r; area = area } → (r ≡ x.answer) × (area ≡ x.area)
leaves x r area e = (sym (ap (λ (y : Arrival). y.answer) e), sym (ap (λ (y : Arrival). y.area) e))

module _ (d : Device) (words : ℕ) (area : List ℕ) (m id : ℕ) (p : Part) where
  pub call-area : length area ≢ 4096 → part_change d words area m id p ≡ arrival 1 0 d area
  unfolding part_change
  call-area h = rw (ne_eqb (length area) 4096 h, and-false (seen_in d words (place_of d.settings id)).sound)

  module _ (l : length area ≡ 4096) where
    pub call-refused : (r : Refusal) → where_by d words m id ≡ Err r → part_change d words area m id p ≡ arrival (number_of r) 0 d area
    unfolding part_change
    call-refused n e =
        let v = seen_in d words (place_of d.settings id) in
        rw (eq-eqb (length area) 4096 l, and-true v.sound)
        (where_by-tests d words m id n e (drop 3 (part_order d.settings m v (arriving_in d.sequence area id) p)) (part_done d area id p) (λ n j. arrival n 0 d area))

    module _ (i : ℕ) (e : where_by d words m id ≡ Ok i) where
      found : Located d words id i
      found = where_is-at d words id i (where_by-at d words m id i e).1

      by : is_manager d.settings m ≡ true
      by = (where_by-at d words m id i e).0

      pub call-running : (get_or d.controllers i no_controller).suspended ≡ false → part_change d words area m id p ≡ arrival 13 0 d area
      unfolding part_change
      call-running f = rw (found.place, found.seen, by, eq-eqb (length area) 4096 l, f)

      module _ (f : (get_or d.controllers i no_controller).suspended ≡ true) (k : ℕ) (s : k ≡ refusal (part_tests (arriving_in d.sequence area id) p)) where
        to-tests : part_change d words area m id p ≡ verdict (part_tests (arriving_in d.sequence area id) p) (part_done d area id p) (λ n j. arrival n 0 d area)
        unfolding part_change
        to-tests = rw (found.place, found.seen, by, eq-eqb (length area) 4096 l, f)

        pub call-number : k ≢ 0 → part_change d words area m id p ≡ arrival k 0 d area
        call-number h =
            to-tests ∙ verdict-refused (part_tests (arriving_in d.sequence area id) p) _ (λ n j. arrival n 0 d area) (λ z. h (s ∙ z)) ∙ ap (λ n. arrival n 0 d area) (sym s)

        -- what an accepted part is known by
        module _ (z : k ≡ 0) (w : Within d.sequence) where
          tests : Passed (part_tests (arriving_in d.sequence area id) p)
          tests =
              passes-Passed (part_tests (arriving_in d.sequence area id) p)
              (sym (refusal-none (part_tests (arriving_in d.sequence area id) p) (omega arith, (omega arith, (omega arith, (omega arith, (omega arith, tt)))))) ∙ eq-eqb _ 0 (sym s ∙ z))

          placed : is_offset (offset_of p) ≡ true
          placed = tests.1.0

          pub call-low : offset_of p ≡ p.low
          call-low = offset-is p.low p.high placed

          next : is_next d.sequence id p.indicator (offset_of p) ≡ true
          next = sym (follows_next area id p d.sequence) ∙ tests.1.1.1.0

          joined : joined_with (front_in id d.sequence area) p ≡ assembled area (offset_of p) p.bytes
          joined = joined-assembled area id p l d.sequence w next

          joined_length : length (joined_with (front_in id d.sequence area) p) ≡ p.low + length p.bytes
          joined_length =
              let u = offset-within p.low p.high placed in
              rw (joined, call-low) (assembled-length area p.low p.bytes (omega (arith, l, u)))

          pub call_fits : p.low + length p.bytes ≤ 4096
          call_fits = let h : length (joined_with (front_in id d.sequence area) p) ≤ 4096 = leb-true _ 4096 (and_left _ _ tests.1.1.1.1.0) in omega (arith, h, joined_length)

          pub call-done : part_change d words area m id p ≡ record { answer = ended_at d id p.indicator (p.low + length p.bytes); area = put area p.low p.bytes }
          call-done = to-tests ∙ verdict-passed (part_tests (arriving_in d.sequence area id) p) _ (λ n j. arrival n 0 d area) tests ∙ rw (joined_length, call-low) (go (is_last p))
            where
              end : ℕ
              end = p.low + length p.bytes

              go : (b : Bool)
                  → cond b (arrival 0 end (with_sequence d None) (put area p.low p.bytes)) (arrival 0 0 (with_sequence d (Some (record { owner = id; end = end }))) (put area p.low p.bytes))
                  ≡ record {
                    answer = cond b (record { number = 0; whole = end; device = with_sequence d None }) (record { number = 0; whole = 0; device = with_sequence d (Some (record { owner = id; end = end })) });
                    area = put area p.low p.bytes;
                  }
              go true = refl
              go false = refl
