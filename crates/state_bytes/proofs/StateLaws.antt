-- Laws of `state_ok`: what it says, and its size fields by their halves. All of it is the library's interface. Assumes nothing.
use Prim.Native.Nat.{ℕ, ◌+◌, ◌*◌, ◌^◌, ◌≤◌, ◌<◌}
use mathlib.Core.Path.{◌≡◌}
use mathlib.Core.Bool.{true, false}
use mathlib.Core.List.{List}
use borrow.Author.Tests.{leb-true, eqb-true, le-leb, lt-leb, eq-eqb, ne_eqb}
use lib.ListN.{length}
use Rattle.little.specs.Little.{number_at}
use Rattle.little.proofs.Numbers.{number_at-add}
use Rattle.rules.proofs.ListLaws.{every-at, every-not}
use Rattle.rules.specs.ControllerState.{state_header, state_version, nvme_size, vendor_size, state_size, state_rules, state_ok}

-- what an accepted state is
pub record StateIs (x : List ℕ) : Type 0 where
  pub long : state_header ≤ length x
  pub version : state_version x ≡ 0
  pub size : length x ≡ state_size x

module _ (x : List ℕ) where
  pub state_ok-true : state_ok x ≡ true → StateIs x
  unfolding state_ok
  state_ok-true e = record {
    long = leb-true state_header (length x) (every-at (state_rules x) 0 e);
    version = eqb-true (state_version x) 0 (every-at (state_rules x) 1 e);
    size = eqb-true (length x) (state_size x) (every-at (state_rules x) 2 e);
  }

  pub state_ok-is : StateIs x → state_ok x ≡ true
  unfolding state_ok
  state_ok-is s =
      rw (le-leb state_header (length x) s.long, eq-eqb (state_version x) 0 s.version, eq-eqb (length x) (state_size x) s.size)

  -- each of its tests that fails
  pub state_ok-short : length x < state_header → state_ok x ≡ false
  unfolding state_ok
  state_ok-short h = every-not (state_rules x) 0 (lt-leb state_header (length x) h)

  pub state_ok-version : (state_version x ≡ 0 → ⊥) → state_ok x ≡ false
  unfolding state_ok
  state_ok-version h = every-not (state_rules x) 1 (ne_eqb (state_version x) 0 h)

  pub state_ok-size : (length x ≡ state_size x → ⊥) → state_ok x ≡ false
  unfolding state_ok
  state_ok-size h = every-not (state_rules x) 2 (ne_eqb (length x) (state_size x) h)

  -- a size by its halves
  pub nvme_size-halves : nvme_size x ≡ number_at x 16 8 + 2 ^ 64 * number_at x 24 8
  nvme_size-halves = number_at-add x 16 8 8

  pub vendor_size-halves : vendor_size x ≡ number_at x 32 8 + 2 ^ 64 * number_at x 40 8
  vendor_size-halves = number_at-add x 32 8 8
