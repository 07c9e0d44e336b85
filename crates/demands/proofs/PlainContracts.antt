-- W9: each call of the plain engine asks nothing, and its contract is what the demands speak of, word for word, and an equation for everything that comes back. Assumes nothing.
use mathlib.Core.Path.{refl, sym, ◌∙◌}
use Rattle.demands.specs.PlainContracts.{PlainAsks, PlainAre, PlainBatchIs, PlainLent, PlainDeterminate, PlainContracts}

asks : PlainAsks
asks =
    record {
      fresh = λ κs a. tt;
      start = λ κs a. tt;
      stop = λ κs a. tt;
      write = λ κs a. tt;
      batch-of = λ κs a. tt;
      receive = λ κs a. tt;
      suspend = λ κs a. tt;
      resume = λ κs a. tt;
      set-state = λ κs a. tt;
      make-queue = λ κs a. tt;
      post = λ κs a. tt;
      take_queue = λ κs a. tt;
    }

calls : PlainAre
calls =
    record {
      fresh = λ κs a r e p. p;
      start = λ κs a r e p. p;
      stop = λ κs a r e p. p;
      write = λ κs a r e p. p;
      batch-of = λ κs a r e p. p;
      receive = λ κs a r e p. p;
      suspend = λ κs a r e p. p;
      resume = λ κs a r e p. p;
      set-state = λ κs a r e p. p;
      make-queue = λ κs a r e p. p;
      post = λ κs a r e p. p;
      take_queue = λ κs a r e p. p;
    }

batch : PlainBatchIs
batch = record { asks = λ 𝓛 mem run κs a g. refl; says = λ 𝓛 mem run κs a g r e. refl }

lent : PlainLent
lent =
    record {
      fresh = refl;
      start = refl;
      stop = refl;
      write = refl;
      batch = refl;
      batch-of = refl;
      receive = refl;
      suspend = refl;
      resume = refl;
      set-state = refl;
      make-queue = refl;
      post = refl;
      take_queue = refl;
    }

determinate : PlainDeterminate
determinate =
    record {
      fresh = λ κs a r r' e e' p q. (p.0 ∙ sym q.0, p.1 ∙ sym q.1);
      start = λ κs a r r' e e' p q. (p.0 ∙ sym q.0, p.1 ∙ sym q.1);
      stop = λ κs a r r' e e' p q. (p.0 ∙ sym q.0, p.1 ∙ sym q.1);
      write = λ κs a r r' e e' p q. (p.0 ∙ sym q.0, p.1 ∙ sym q.1);
      batch = λ d bs rs r r' l l' p q. (p.0 ∙ sym q.0, p.1 ∙ sym q.1);
      batch-of = λ κs a r r' e e' p q. (p.0 ∙ sym q.0, p.1 ∙ sym q.1);
      receive = λ κs a r r' e e' p q. (p.0 ∙ sym q.0, p.1 ∙ sym q.1, p.2 ∙ sym q.2);
      suspend = λ κs a r r' e e' p q. p ∙ sym q;
      resume = λ κs a r r' e e' p q. p ∙ sym q;
      set-state = λ κs a r r' e e' p q. (p.0 ∙ sym q.0, p.1 ∙ sym q.1);
      make-queue = λ κs a r r' e e' p q. p ∙ sym q;
      post = λ κs a r r' e e' p q. (p.0 ∙ sym q.0, p.1 ∙ sym q.1);
      take_queue = λ κs a r r' e e' p q. (p.0 ∙ sym q.0, p.1 ∙ sym q.1);
    }

pub plain-contracts : PlainContracts
plain-contracts = record { asks = asks; calls = calls; batch = batch; lent = lent; determinate = determinate }
