-- `settings_updater::trk_settings_version` is right: a file that is accepted has its version. Assumes nothing.
use Prim.Native.Nat.{ℕ, ◌≤◌}
use mathlib.Core.Path.{◌≡◌, sym, ◌∙◌}
use mathlib.Core.Bool.{Bool, true, false, cond}
use native.Mathlib.Omega.{arith}
use lib.Dec.{eqb}
use Rattle.settings_file.specs.File.{file_size, version_in}
use Rattle.settings_file.proofs.ReaderLaws.{accepted}
use Rattle.settings_updater.proofs.trk_settings_version.Goals as goal

long : (v n : ℕ) → n ≡ file_size v → 5 ≤ n
long v n = go (eqb v 1)
  where
    go : (b : Bool) → n ≡ cond b 29 35 → 5 ≤ n
    go true q = omega arith
    go false q = omega arith

pub read-requires : goal.read-requires
read-requires c =
    let x = c.args.file.now in
    long (version_in x) _ (accepted x (sym c.trk_settings_refusal.ensures ∙ c.if-trk_settings_refusal-ne0.false)).size
