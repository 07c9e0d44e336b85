-- Worked numbers of the settings file: files with what both readers answer, and settings with the bytes of their files. That the definitions give these
-- answers is a claim for each, `Worked`, proved by computing (proofs/Theorems.antt).
use Rattle.std.specs.Prelude.{ℕ, true, false, ◌≡◌, List, [], ◌∷◌, ◌++◌, map, take, set, replicate}
use Rattle.std.specs.declared.option.Option.TheVariants.{None, Some}
use Rattle.rules.specs.declared.Settings.{Settings}
use Rattle.settings_file.specs.File.{old_read, new_read, file_bytes}

-- ---- settings and their files

-- `dev 1 0 8 0 16 5 6`
abbrev pub alone56 : Settings
alone56 = record { manager = 1; least = 0; greatest = 8; powers = false; limit = 16; second = None; shelf = 128; count = 2; identifiers = 5 ∷ 6 ∷ replicate 6 0 }

-- managers 1 (limit 16) and 2 (limit 4), shelf limit 18, controllers 5, 6 and 7
abbrev pub both567 : Settings
both567 = record { manager = 1; least = 0; greatest = 8; powers = false; limit = 16; second = Some (record { id = 2; limit = 4 }); shelf = 18; count = 3; identifiers = 5 ∷ 6 ∷ 7 ∷ replicate 5 0 }

-- the file of `alone56` at version 1, at version 2, and that of `both567` at version 2
abbrev pub alone_one : List ℕ
alone_one = 84 ∷ 82 ∷ 75 ∷ 1 ∷ 0 ∷ 1 ∷ 0 ∷ 0 ∷ 8 ∷ 0 ∷ 16 ∷ 0 ∷ 2 ∷ 5 ∷ 0 ∷ 6 ∷ 0 ∷ replicate 12 0

abbrev pub alone_two : List ℕ
alone_two = set alone_one 3 2 ++ (1 ∷ 0 ∷ 0 ∷ 0 ∷ 128 ∷ 0 ∷ [])

abbrev pub both_two : List ℕ
both_two = (84 ∷ 82 ∷ 75 ∷ 2 ∷ 0 ∷ 1 ∷ 0 ∷ 0 ∷ 8 ∷ 0 ∷ 16 ∷ 0 ∷ 3 ∷ 5 ∷ 0 ∷ 6 ∷ 0 ∷ 7 ∷ 0 ∷ replicate 10 0) ++ (2 ∷ 0 ∷ 4 ∷ 0 ∷ 18 ∷ 0 ∷ [])

-- a number of its own in every field
abbrev pub full : Settings
full =
    record {
      manager = 0x0201;
      least = 3;
      greatest = 4;
      powers = true;
      limit = 5;
      second = Some (record { id = 0x1716; limit = 24 });
      shelf = 25;
      count = 8;
      identifiers = 0x0706 ∷ 0x0908 ∷ 0x0b0a ∷ 0x0d0c ∷ 0x0f0e ∷ 0x1110 ∷ 0x1312 ∷ 0x1514 ∷ [];
    }

abbrev pub full_two : List ℕ
full_two =
    0x54 ∷ 0x52 ∷ 0x4b ∷ 2 ∷ 0 ∷ 0x01 ∷ 0x02 ∷ 3 ∷ 4 ∷ 1 ∷ 5 ∷ 0 ∷ 8 ∷ 0x06 ∷ 0x07 ∷ 0x08 ∷ 0x09 ∷ 0x0a ∷ 0x0b ∷ 0x0c ∷ 0x0d ∷ 0x0e ∷ 0x0f ∷ 0x10 ∷ 0x11 ∷ 0x12 ∷ 0x13 ∷ 0x14 ∷ 0x15
    ∷ 0x16 ∷ 0x17 ∷ 24 ∷ 0 ∷ 25 ∷ 0 ∷ []

-- ---- what the readers answer

-- a file, and the numbers that the reader of version 1 and that of both answer
pub record Case : Type 0 where
  pub file : List ℕ
  pub old : ℕ
  pub new : ℕ

abbrev case : List ℕ → ℕ → ℕ → Case
case x n m = record { file = x; old = n; new = m }

unfoldable pub cases : List Case
cases =
    -- fewer than 5 bytes, whatever they are
    case [] 35 35
    ∷ case (84 ∷ 82 ∷ 75 ∷ 1 ∷ []) 35 35
    ∷ case (88 ∷ 88 ∷ 88 ∷ 88 ∷ []) 35 35
    -- another mark, the length unseen; `trk` in lower case
    ∷ case (88 ∷ 88 ∷ 88 ∷ 88 ∷ 88 ∷ []) 31 31
    ∷ case (116 ∷ 114 ∷ 107 ∷ 1 ∷ 0 ∷ []) 31 31
    -- a version alone: 1, 3, and 257
    ∷ case (84 ∷ 82 ∷ 75 ∷ 1 ∷ 0 ∷ []) 35 35
    ∷ case (84 ∷ 82 ∷ 75 ∷ 3 ∷ 0 ∷ []) 32 32
    ∷ case (84 ∷ 82 ∷ 75 ∷ 1 ∷ 1 ∷ []) 32 32
    -- whole files; 28 and 30 bytes; 29 bytes that say version 2
    ∷ case alone_one 0 0
    ∷ case alone_two 32 0
    ∷ case both_two 32 0
    ∷ case (take 28 alone_one) 35 35
    ∷ case (alone_one ++ 0 ∷ []) 35 35
    ∷ case (set alone_one 3 2) 32 35
    -- the powers' rule 1, and 2; a spare place that is set; 9 identifiers
    ∷ case (set alone_one 9 1) 0 0
    ∷ case (set alone_one 9 2) 16 16
    ∷ case (set alone_one 17 7) 16 16
    ∷ case (set alone_one 12 9) 16 16
    -- version 2: the first manager again with limit 3; a controller as second manager; the limits 0, 128 and 129; the shelf's limits 0 and 129
    ∷ case (set alone_two 31 3) 32 16
    ∷ case (set both_two 29 5) 32 16
    ∷ case (set both_two 31 0) 32 0
    ∷ case (set both_two 31 128) 32 0
    ∷ case (set both_two 31 129) 32 16
    ∷ case (set both_two 33 0) 32 0
    ∷ case (set both_two 33 129) 32 16
    ∷ []

-- ---- the claims

pub record Worked : Type 0 where
  pub old : map (λ (c : Case). (old_read c.file).number) cases ≡ map (λ (c : Case). c.old) cases
  pub new : map (λ (c : Case). (new_read c.file).number) cases ≡ map (λ (c : Case). c.new) cases
  pub files : (file_bytes 1 alone56 ≡ alone_one) × (file_bytes 2 alone56 ≡ alone_two) × (file_bytes 2 both567 ≡ both_two) × (file_bytes 2 full ≡ full_two)
  -- and read back
  pub settings : ((new_read alone_one).settings ≡ alone56) × ((new_read alone_two).settings ≡ alone56) × ((new_read both_two).settings ≡ both567) × ((new_read full_two).settings ≡ full)
