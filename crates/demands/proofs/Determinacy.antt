-- Any two results that a promise allows are equal: each promise is an equation for everything that comes back. Assumes nothing.
use mathlib.Core.Path.{sym, ◌∙◌}
use Rattle.demands.specs.Determinacy.{Calls, Structure, ReportReader, Determinacy}

calls : Calls
calls =
    record {
      fresh = λ κs a r r' e e' p q. (p.0 ∙ sym q.0, p.1 ∙ sym q.1);
      start = λ κs a r r' e e' p q. (p.0 ∙ sym q.0, p.1 ∙ sym q.1);
      stop = λ κs a r r' e e' p q. (p.0 ∙ sym q.0, p.1 ∙ sym q.1);
      write = λ κs a r r' e e' p q. (p.0 ∙ sym q.0, p.1 ∙ sym q.1);
      batch = λ d ws rs r r' l l' p q. (p.0 ∙ sym q.0, p.1 ∙ sym q.1);
      batch-of = λ κs a r r' e e' p q. (p.0 ∙ sym q.0, p.1 ∙ sym q.1);
      receive = λ κs a r r' e e' p q. (p.0 ∙ sym q.0, p.1 ∙ sym q.1, p.2 ∙ sym q.2);
      suspend = λ κs a r r' e e' p q. p ∙ sym q;
      resume = λ κs a r r' e e' p q. p ∙ sym q;
      set-state = λ κs a r r' e e' p q. (p.0 ∙ sym q.0, p.1 ∙ sym q.1);
      make-queue = λ κs a r r' e e' p q. p ∙ sym q;
      post = λ κs a r r' e e' p q. (p.0 ∙ sym q.0, p.1 ∙ sym q.1);
      take_queue = λ κs a r r' e e' p q. (p.0 ∙ sym q.0, p.1 ∙ sym q.1);
    }

structure : Structure
structure =
    record {
      read-header = λ κs a r r' e e' p q. p.is ∙ sym q.is;
      read-ranges = λ κs a r r' e e' p q. p ∙ sym q;
      read-start = λ κs a r r' e e' p q. p.is ∙ sym q.is;
      write-start = λ κs a r r' e e' p q. (p.0 ∙ sym q.0, p.1 ∙ sym q.1);
    }

report-reader : ReportReader
report-reader =
    record {
      refusal = λ κs a r r' e e' p q. p ∙ sym q;
      bad_index = λ κs a r r' e e' p q. p ∙ sym q;
      suspended = λ κs a r r' e e' p q. p ∙ sym q;
      more = λ κs a r r' e e' p q. p ∙ sym q;
      identifier = λ κs a r r' e e' p q. p ∙ sym q;
      granularity = λ κs a r r' e e' p q. p ∙ sym q;
      count = λ κs a r r' e e' p q. p ∙ sym q;
      refusal-at = λ κs a r r' e e' p q. p ∙ sym q;
      address = λ κs a r r' e e' p q. p ∙ sym q;
      length = λ κs a r r' e e' p q. p ∙ sym q;
      run_address = λ κs a r r' e e' p q. p ∙ sym q;
      run_length = λ κs a r r' e e' p q. p ∙ sym q;
    }

pub determinacy : Determinacy
determinacy = record { calls = calls; structure = structure; report-reader = report-reader; read-line = λ κs a r r' e e' p q. p ∙ sym q }
