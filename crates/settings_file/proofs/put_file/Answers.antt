-- `settings_file::put_file` is right because the head is stored, and behind it what version 2 adds. Assumes nothing.
use mathlib.Core.Path.{◌≡◌, sym, ap, ◌∙◌}
use mathlib.Core.List.{List}
use Prim.Native.Nat.{ℕ}
use lib.ListN.{length}
use borrow.Author.Rules.{rules}
use Rattle.little.specs.Little.{put}
use Rattle.rules.specs.Device.{cleaned}
use Rattle.rules.specs.declared.Settings.{Settings}
use Rattle.settings_file.specs.File.{head_bytes, second_bytes, file_bytes}
use Rattle.settings_file.proofs.FieldLaws.{file_bytes-two, head_more}
use Rattle.settings_file.proofs.put_file.Goals as goal

behind : (v : ℕ) (s c : Settings) → c ≡ cleaned s → (l l' : List ℕ) → l' ≡ put l 0 (head_bytes v c) → (v ≡ 1 → ⊥) → length c.identifiers ≡ 8
    → (l'' : List ℕ) → l'' ≡ put l' 29 (second_bytes s) → l'' ≡ put l 0 (file_bytes v s)
behind v s c ec l l' el two eight l'' el'' =
    el''
    ∙ ap (λ k. put k 29 (second_bytes s)) (el ∙ ap (λ d. put l 0 (head_bytes v d)) ec)
    ∙ sym (head_more l v (cleaned s) (second_bytes s) (sym (ap (λ (d : Settings). length d.identifiers) ec) ∙ eight))
    ∙ ap (put l 0) (sym (file_bytes-two v s two))

pub returns-then-version-ne1 : goal.returns-then-version-ne1
returns-then-version-ne1 c = search (behind, rules)
