-- W13: the logged calls promise what the statements speak of, and leave nothing open. Assumes nothing.
use mathlib.Core.Path.{◌≡◌, refl, sym, ap₂, ◌∙◌}
use Rattle.booking.specs.declared.Logged.{Logged}
use Rattle.demands.specs.LogContracts.{LogAsks, LogAre, LogLent, LogDeterminate, LogFunctions, LogContracts}

asks : LogAsks
asks =
    record {
      fresh = λ κs a. tt;
      stop = λ κs a. tt;
      write = λ κs a. tt;
      batch-of = λ κs a. tt;
      receive = λ κs a. tt;
      totals = λ κs a. tt;
      plain_fresh = λ κs a. tt;
      plain_stop = λ κs a. tt;
      plain_write = λ κs a. tt;
      plain_batch_of = λ κs a. tt;
      plain_receive = λ κs a. tt;
      plain_totals = λ κs a. tt;
    }

calls : LogAre
calls =
    record {
      fresh = λ κs a r e p. p;
      stop = λ κs a r e p. p;
      write = λ κs a r e p. p;
      batch-of = λ κs a r e p. p;
      receive = λ κs a r e p. p;
      totals = λ κs a r e p. p;
      plain_fresh = λ κs a r e p. p;
      plain_stop = λ κs a r e p. p;
      plain_write = λ κs a r e p. p;
      plain_batch_of = λ κs a r e p. p;
      plain_receive = λ κs a r e p. p;
      plain_totals = λ κs a r e p. p;
    }

lent : LogLent
lent =
    record {
      fresh = refl;
      stop = refl;
      write = refl;
      batch-of = refl;
      receive = refl;
      totals = refl;
      plain_fresh = refl;
      plain_stop = refl;
      plain_write = refl;
      plain_batch_of = refl;
      plain_receive = refl;
      plain_totals = refl;
    }

same : {A : Type 0} (r r' : Logged A) → r.answer ≡ r'.answer → r.log ≡ r'.log → r ≡ r'
same r r' e f = ap₂ (λ a l. record { answer = a; log = l }) e f

determinate : LogDeterminate
determinate =
    record {
      fresh = λ κs a r r' e e' p q. (same r r' (p.0 ∙ sym q.0) (p.2 ∙ sym q.2), p.1 ∙ sym q.1);
      stop = λ κs a r r' e e' p q. (same r r' (p.0 ∙ sym q.0) (p.2 ∙ sym q.2), p.1 ∙ sym q.1);
      write = λ κs a r r' e e' p q. (same r r' (p.0 ∙ sym q.0) (p.2 ∙ sym q.2), p.1 ∙ sym q.1);
      batch-of = λ κs a r r' e e' p q. (same r r' (p.0 ∙ sym q.0) (p.2 ∙ sym q.2), p.1 ∙ sym q.1);
      receive = λ κs a r r' e e' p q. (same r r' (p.0 ∙ sym q.0) (p.3 ∙ sym q.3), p.1 ∙ sym q.1, p.2 ∙ sym q.2);
      totals = λ κs a r r' e e' p q. p ∙ sym q;
      plain_fresh = λ κs a r r' e e' p q. (same r r' (p.0 ∙ sym q.0) (p.2 ∙ sym q.2), p.1 ∙ sym q.1);
      plain_stop = λ κs a r r' e e' p q. (same r r' (p.0 ∙ sym q.0) (p.2 ∙ sym q.2), p.1 ∙ sym q.1);
      plain_write = λ κs a r r' e e' p q. (same r r' (p.0 ∙ sym q.0) (p.2 ∙ sym q.2), p.1 ∙ sym q.1);
      plain_batch_of = λ κs a r r' e e' p q. (same r r' (p.0 ∙ sym q.0) (p.2 ∙ sym q.2), p.1 ∙ sym q.1);
      plain_receive = λ κs a r r' e e' p q. (same r r' (p.0 ∙ sym q.0) (p.3 ∙ sym q.3), p.1 ∙ sym q.1, p.2 ∙ sym q.2);
      plain_totals = λ κs a r r' e e' p q. p ∙ sym q;
    }

functions : LogFunctions
functions = record { empty = λ κs a r e p. p; added = λ κs a r e p. p; no-sums = λ κs a r e p. p; summed = λ κs a r e p. p }

pub log-contracts : LogContracts
log-contracts = record { asks = asks; calls = calls; lent = lent; determinate = determinate; functions = functions }
