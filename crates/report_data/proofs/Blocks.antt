-- Laws of the report's blocks of bytes, for the caller that writes one descriptor after another and the header last: sizes, a descriptor more, the
-- whole, and that no byte after it changes. A law that ends in `-again` or `-done` is the one before it as `search` wants it. Assumes nothing.
use mathlib.Core.Path.{◌≡◌}
use mathlib.Core.Bool.{Bool}
use mathlib.Core.List.{List, [], ◌∷◌, ◌++◌}
use Prim.Native.Nat.{ℕ, ◌+◌, ◌*◌}
use native.Mathlib.Omega.{arith}
use lib.ListN.{length, drop, length-append}
use Rattle.little.specs.Little.{put, records}
use Rattle.little.proofs.Put.{put-nil, put_front, put-drop-after}
use Rattle.little.proofs.Numbers.{number_bytes-length}
use Rattle.little.proofs.Records.{records-nil, records-length, records-snoc, records-snoc-again}
use Rattle.rules.specs.Report.{Descriptor, Report, report_header, descriptor_bytes, report_bytes}

-- ---- sizes

pub descriptor_bytes-length : (d : Descriptor) → length (descriptor_bytes d) ≡ 16
descriptor_bytes-length d = simp (length-append, number_bytes-length)

pub report_header-length : (id : ℕ) (suspended more : Bool) (count g : ℕ) → length (report_header id suspended more count g) ≡ 16
report_header-length id suspended more count g = simp (length-append, number_bytes-length)

-- ---- one descriptor after another, from index 16 on

pub descriptors-none : (l : List ℕ) → put l 16 (records descriptor_bytes []) ≡ l
descriptors-none l = rw records-nil (put-nil l 16)

pub descriptors-snoc : (l : List ℕ) (ds : List Descriptor) (d : Descriptor)
    → put (put l 16 (records descriptor_bytes ds)) (16 + 16 * length ds) (descriptor_bytes d) ≡ put l 16 (records descriptor_bytes (ds ++ d ∷ []))
descriptors-snoc l ds d = records-snoc descriptor_bytes 16 descriptor_bytes-length ds d l 16

pub descriptors-again : (ds : List Descriptor) (d : Descriptor) (l₀ l l' : List ℕ) (at : ℕ) → at ≡ 16 + 16 * length ds
    → l ≡ put l₀ 16 (records descriptor_bytes ds) → l' ≡ put l at (descriptor_bytes d) → l' ≡ put l₀ 16 (records descriptor_bytes (ds ++ d ∷ []))
descriptors-again ds d l₀ l l' at = records-snoc-again descriptor_bytes 16 descriptor_bytes-length ds d l₀ l l' 16 at

-- ---- the header, written last

module _ (id : ℕ) (r : Report) where
  -- a report's own header
  abbrev header : List ℕ
  header = report_header id r.suspended r.more (length r.descriptors) r.granularity

  header-length : length header ≡ 16
  header-length = report_header-length id r.suspended r.more (length r.descriptors) r.granularity

  pub report-front : (l : List ℕ)
      → put (put l 16 (records descriptor_bytes r.descriptors)) 0 (report_header id r.suspended r.more (length r.descriptors) r.granularity)
      ≡ put l 0 (report_bytes id r)
  unfolding report_bytes
  report-front l = put_front l 16 header (records descriptor_bytes r.descriptors) header-length

  pub report-done : (l₀ l l' : List ℕ) (count : ℕ) → count ≡ length r.descriptors → l ≡ put l₀ 16 (records descriptor_bytes r.descriptors)
      → l' ≡ put l 0 (report_header id r.suspended r.more count r.granularity) → l' ≡ put l₀ 0 (report_bytes id r)
  report-done l₀ l l' count n e f = rw (f, e, n) (report-front l₀)

  pub report_bytes-length : length (report_bytes id r) ≡ 16 + 16 * length r.descriptors
  unfolding report_bytes
  report_bytes-length = rw (length-append, header-length, records-length descriptor_bytes 16 descriptor_bytes-length r.descriptors)

  -- bytes after the last descriptor are unchanged
  pub report-rest : (l : List ℕ) → drop (16 + 16 * length r.descriptors) (put l 0 (report_bytes id r)) ≡ drop (16 + 16 * length r.descriptors) l
  report-rest l = put-drop-after l 0 (report_bytes id r) (16 + 16 * length r.descriptors) (omega (arith, report_bytes-length))
