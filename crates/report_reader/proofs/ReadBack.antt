-- The reader accepts each report of good ranges that a buffer has room for, and gives it back. Assumes nothing.
use mathlib.Core.Path.{◌≡◌, refl, sym, ap, ap₂, subst, ◌∙◌}
use mathlib.Core.Bool.{Bool, true, false, and-false, true≢false}
use mathlib.Core.List.{List, [], ◌∷◌, ◌++◌, map, append_assoc}
use Rattle.std.specs.declared.option.Option.TheVariants.{Some}
use Prim.Native.Nat.{ℕ, zero, suc, ◌+◌, ◌-◌, ◌*◌, ◌/◌, ◌%◌, ◌^◌, ◌≤◌, ◌<◌}
use native.Mathlib.Omega.{arith}
use lib.Dec.{eqb}
use lib.ListN.{length, get_or, take, drop, length-map, length-take}
use Rattle.std.specs.List.{slice_get}
use lib.Seq.{drop-nil}
use borrow.Author.Tests.{ne_eqb, eq-eqb, le-leb}
use Rattle.rules.specs.Settings.{most_units}
use Rattle.little.specs.Little.{number_bytes, put, records, records_at}
use Rattle.little.proofs.Put.{put-drop, put-length}
use Rattle.little.proofs.Numbers.{number_at-one, number_at-here, number_at-next}
use Rattle.little.proofs.Records.{records-here, records_at-is}
use Rattle.rules.specs.Lists.{non_empty}
use Rattle.rules.specs.Units.{units, pending}
use Rattle.rules.specs.Ranges.{rows_ok}
use Rattle.rules.specs.Report.{runs, Descriptor, descriptor, Report, room, report_on, flag, descriptor_bytes, report_bytes}
use Rattle.rules.specs.ReportReader.{report_size, report_tests, version_in, more_in, suspended_in, identifier_in, count_in, granularity_in, descriptor_at, descriptor_of, descriptors_in, descriptor_tests, more_of_none, bit, report_refusal, report_refusal_at, report_address, report_length}
use Rattle.rules.specs.Demands.{ReadBack}
use Rattle.rules.specs.declared.Range.{Range}
use Rattle.rules.proofs.ListLaws.{All, slice_get-at}
use Rattle.rules.proofs.RefusalLaws.{Passed, verdict-passed}
use Rattle.report_data.proofs.Blocks.{descriptor_bytes-length, report_bytes-length}
use Rattle.report_reader.proofs.AnswerLaws.{accepted-answer, index-past, index-within, index-answer}
use Rattle.report_reader.proofs.RunFacts.{Fitting, listed-fit, runs-few}

-- ---- any report whose fields fit their bytes

none : Descriptor
none = record { address = 0; length = 0 }

get_d_of : (P : Descriptor → Type 0) (ds : List Descriptor) → All P ds → (i : ℕ) → i < length ds → P (get_or ds i none)
get_d_of P [] h i l = absurd (omega arith)
get_d_of P (d ∷ ds) h zero l = h.0
get_d_of P (d ∷ ds) h (suc i) l = get_d_of P ds h.1 i (omega arith)

-- the attributes' bits
more-bit : (b m : Bool) → eqb ((flag b 2 + flag m 1) % 2) 1 ≡ m
more-bit true true = refl
more-bit true false = refl
more-bit false true = refl
more-bit false false = refl

suspended-bit : (b m : Bool) → eqb ((flag b 2 + flag m 1) / 2 % 2) 1 ≡ b
suspended-bit true true = refl
suspended-bit true false = refl
suspended-bit false true = refl
suspended-bit false false = refl

flags-fit : (b m : Bool) → flag b 2 + flag m 1 < 256 ^ 1
flags-fit true true = omega arith
flags-fit true false = omega arith
flags-fit false true = omega arith
flags-fit false false = omega arith

module _ (id : ℕ) (r : Report) (x : List ℕ) (fits : 16 + 16 * length r.descriptors ≤ length x) where
  abbrev stored : List ℕ
  stored = put x 0 (report_bytes id r)

  abbrev blocks : List ℕ
  blocks = records descriptor_bytes r.descriptors

  abbrev rest : List ℕ
  rest = drop (0 + length (report_bytes id r)) x

  abbrev attributes : ℕ
  attributes = flag r.suspended 2 + flag r.more 1

  -- the fields one after another
  from-0 : drop 0 stored
      ≡ number_bytes 1 0
      ++ (number_bytes 1 attributes
      ++ (number_bytes 2 id ++ (number_bytes 4 (length r.descriptors) ++ (number_bytes 2 r.granularity ++ (number_bytes 6 0 ++ (blocks ++ rest))))))
  unfolding report_bytes
  from-0 = put-drop x 0 (report_bytes id r) (omega (arith, report_bytes-length id r)) ∙ simp append_assoc

  from-1 : drop 1 stored
      ≡ number_bytes 1 attributes
      ++ (number_bytes 2 id ++ (number_bytes 4 (length r.descriptors) ++ (number_bytes 2 r.granularity ++ (number_bytes 6 0 ++ (blocks ++ rest)))))
  from-1 = number_at-next stored 0 1 0 _ from-0

  from-2 : drop 2 stored
      ≡ number_bytes 2 id ++ (number_bytes 4 (length r.descriptors) ++ (number_bytes 2 r.granularity ++ (number_bytes 6 0 ++ (blocks ++ rest))))
  from-2 = number_at-next stored 1 1 attributes _ from-1

  from-4 : drop 4 stored ≡ number_bytes 4 (length r.descriptors) ++ (number_bytes 2 r.granularity ++ (number_bytes 6 0 ++ (blocks ++ rest)))
  from-4 = number_at-next stored 2 2 id _ from-2

  from-8 : drop 8 stored ≡ number_bytes 2 r.granularity ++ (number_bytes 6 0 ++ (blocks ++ rest))
  from-8 = number_at-next stored 4 4 (length r.descriptors) _ from-4

  from-16 : drop 16 stored ≡ blocks ++ rest
  from-16 = number_at-next stored 10 6 0 _ (number_at-next stored 8 2 r.granularity _ from-8)

  version-back : version_in stored ≡ 0
  version-back = sym (number_at-one stored 0) ∙ number_at-here stored 0 1 0 _ from-0 (omega arith)

  attributes-back : get_or stored 1 0 ≡ attributes
  attributes-back = sym (number_at-one stored 1) ∙ number_at-here stored 1 1 attributes _ from-1 (flags-fit r.suspended r.more)

  more-back : more_in stored ≡ r.more
  more-back = rw attributes-back (more-bit r.suspended r.more)

  suspended-back : suspended_in stored ≡ r.suspended
  suspended-back = rw attributes-back (suspended-bit r.suspended r.more)

  module _ (small : id < 2 ^ 16) (g : r.granularity ≤ 20) (few : length r.descriptors ≤ most_units) (each : All (Fitting r.granularity) r.descriptors) where
    identifier-back : identifier_in stored ≡ id
    identifier-back = number_at-here stored 2 2 id _ from-2 (omega (arith, small))

    count-back : count_in stored ≡ length r.descriptors
    count-back = number_at-here stored 4 4 (length r.descriptors) _ from-4 (omega (arith, few))

    granularity-back : granularity_in stored ≡ r.granularity
    granularity-back = number_at-here stored 8 2 r.granularity _ from-8 (omega (arith, g))

    descriptor-back : (i : ℕ) → i < length r.descriptors → descriptor_at stored (16 + 16 * i) ≡ get_or r.descriptors i none
    descriptor-back i h =
        let d = get_or r.descriptors i none in
        let f : Fitting r.granularity d = get_d_of (Fitting r.granularity) r.descriptors each i h in
        let here : drop (16 + 16 * i) stored ≡ number_bytes 8 d.address ++ (number_bytes 4 d.length ++ (number_bytes 4 0 ++ (records descriptor_bytes (drop (i + 1) r.descriptors) ++ rest))) =
        records-here descriptor_bytes 16 descriptor_bytes-length stored rest 16 r.descriptors i none h from-16 ∙ simp append_assoc in
        ap₂ (λ (a l : ℕ). record { address = a; length = l })
        (number_at-here stored (16 + 16 * i) 8 d.address _ here (omega (arith, f.address)))
        (number_at-here stored (16 + 16 * i + 8) 4 d.length _ (number_at-next stored (16 + 16 * i) 8 d.address _ here) (omega (arith, f.length)))

    -- as many records as it has descriptors are these
    records-back : records_at descriptor_at 16 stored 16 (length r.descriptors) ≡ r.descriptors
    records-back = records_at-is descriptor_at 16 stored 16 (length r.descriptors) r.descriptors none refl descriptor-back

    runs-back : descriptors_in stored ≡ r.descriptors
    unfolding descriptors_in
    runs-back = rw count-back records-back

    none-bad : (i : ℕ) (ds : List Descriptor) → All (Fitting r.granularity) ds → Passed (descriptor_tests r.granularity i ds)
    none-bad i [] h = tt
    none-bad i (d ∷ ds) h = (h.0.good, none-bad (suc i) ds h.1)

    none_more : (b : Bool) → r.more ≡ b → (r.more ≡ true → 0 < length r.descriptors) → more_of_none stored ≡ false
    none_more true e filled = rw (count-back, ne_eqb (length r.descriptors) 0 (λ z. absurd (omega (arith, filled e, z)))) (and-false (more_in stored))
    none_more false e filled = rw (more-back, e)

    module _ (filled : r.more ≡ true → 0 < length r.descriptors) where
      is-accepted : report_refusal stored ≡ 0
      unfolding report_tests
      is-accepted =
          verdict-passed (report_tests stored) 0 (λ k i. k) (
            le-leb 16 (length stored) (omega (arith, put-length x 0 (report_bytes id r), fits)),
            (
              eq-eqb (version_in stored) 0 version-back,
              (
                le-leb (granularity_in stored) 20 (omega (arith, granularity-back, g)),
                (
                  rw (none_more r.more refl filled),
                  (
                    le-leb (report_size (count_in stored)) (length stored) (omega (arith, put-length x 0 (report_bytes id r), fits, count-back)),
                    subst (λ (g : ℕ). Passed (descriptor_tests g 0 (descriptors_in stored))) (sym granularity-back) (subst (λ (ds : List Descriptor). Passed (descriptor_tests r.granularity 0 ds)) (sym runs-back) (none-bad 0 r.descriptors each)),
                  ),
                ),
              ),
            ),
          )

      -- a run at its index
      run-back : (i : ℕ) (d : Descriptor) → slice_get r.descriptors i ≡ Some d
          → (report_refusal_at stored i ≡ 0) × (report_address stored i ≡ d.address) × (report_length stored i ≡ d.length)
      run-back i d at =
          let h = slice_get-at r.descriptors i d none at in
          let there : report_refusal_at stored i ≡ 0 = sym (index-within stored is-accepted i (omega (arith, count-back, h.0))) in
          let is : descriptor_of stored i ≡ d = descriptor-back i h.0 ∙ h.1 in (
            there,
            sym (index-answer stored i there (descriptor_of stored i).address) ∙ ap (λ (e : Descriptor). e.address) is,
            sym (index-answer stored i there (descriptor_of stored i).length) ∙ ap (λ (e : Descriptor). e.length) is,
          )

      pub report-back : ReadBack id r stored
      report-back =
          record {
            accepted = is-accepted;
            identifier = sym (accepted-answer stored is-accepted (identifier_in stored)) ∙ identifier-back;
            suspended = sym (accepted-answer stored is-accepted (bit (suspended_in stored))) ∙ ap bit suspended-back;
            more = sym (accepted-answer stored is-accepted (bit (more_in stored))) ∙ ap bit more-back;
            granularity = sym (accepted-answer stored is-accepted (granularity_in stored)) ∙ granularity-back;
            count = sym (accepted-answer stored is-accepted (count_in stored)) ∙ count-back;
            run = run-back;
            past = λ i h. sym (index-past stored is-accepted i (omega (arith, count-back, h)));
          }

-- ---- a report on ranges that pass 9 and 11

module _ (id g : ℕ) (b : Bool) (rs : List Range) (p : List Bool) (x : List ℕ) where
  abbrev made : Report
  made = report_on b g (room (length x)) (units g rs) p

  -- they fit their bytes
  module _ (granularity : g ≤ 20) (rows : rows_ok g rs ≡ true) (total : length (units g rs) ≤ most_units) (long : 32 ≤ length x) where
    count : length made.descriptors ≤ room (length x)
    count = rw (length-map, length-take) (omega arith)

    count-few : length made.descriptors ≤ most_units
    count-few = rw (length-map, length-take) (omega (arith, runs-few g rs rows total p (room (length x))))

    div-fits : 16 + 16 * ((length x - 16) / 16) ≤ length x
    div-fits = omega (arith, long)

    fitting : All (Fitting g) made.descriptors
    fitting = listed-fit g rs rows total p (room (length x))

  pub reads-back : id < 2 ^ 16 → g ≤ 20 → rows_ok g rs ≡ true → length (units g rs) ≤ most_units → 32 ≤ length x → ReadBack id made (put x 0 (report_bytes id made))
  reads-back small granularity rows total long =
      report-back id made x (omega (arith, count granularity rows total long, div-fits granularity rows total long)) small granularity (omega (arith, count-few granularity rows total long)) (fitting granularity rows total long)
      (some-listed (runs (pending (units g rs) p)))
    where
      some-listed : (ls : _) → non_empty (drop (room (length x)) ls) ≡ true → 0 < length (map descriptor (take (room (length x)) ls))
      some-listed [] e = absurd (true≢false (sym (rw drop-nil at e)))
      some-listed (l ∷ ls) e = rw (length-map, length-take) (omega (arith, long))

  -- the records behind the header are its descriptors
  pub lists_back : id < 2 ^ 16 → g ≤ 20 → rows_ok g rs ≡ true → length (units g rs) ≤ most_units → 32 ≤ length x
      → records_at descriptor_at 16 (put x 0 (report_bytes id made)) 16 (length made.descriptors) ≡ made.descriptors
  lists_back small granularity rows total long =
      records-back id made x (omega (arith, count granularity rows total long, div-fits granularity rows total long)) small granularity (omega (arith, count-few granularity rows total long)) (fitting granularity rows total long)
