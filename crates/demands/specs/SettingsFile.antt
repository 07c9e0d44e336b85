-- Document 02, W11: the settings file. What ties its readers, its writer and an updater's functions to the statements of `crates/settings_file/specs/Statements.antt`: each
-- asks nothing of its caller, and promises what these speak of. `Pre`, `Post` and `ps` are read off the source, as in Contracts.
use Rattle.std.specs.Prelude.{ℕ, ◌≡◌, List, [], ◌∷◌, length, take}
use borrow.Fn.Kinds.{p_num}
use borrow.Kind.ShrSlice.{p_shr_s}
use borrow.Kind.MutSlice.{p_mut_s}
use borrow.Table.Referent.{rt_f, f_int}
use Rattle.std.specs.Int.{w8, w16, w64}
use Rattle.rules.specs.Promise.{Determinate}
use Rattle.rules.specs.Refusals.{refusal}
use Rattle.settings_file.specs.File.{old_read, new_read, write_tests, file_written}
use Rattle.settings_file.specs.Statements.{Begins, Layout, Readers, Writer, OneEncoding, BothReaders}
use Rattle.settings_file.specs.Worked.{Worked}
use Rattle.settings_updater.specs.Statements.{Updater}
use Rattle.settings_updater.specs.Answers.{file_version, file_rule, file_identifier, file_second, file_second_limit, save_number, saved}
use Rattle.settings_file.proofs.read_v1.Reads as read-v1
use Rattle.settings_file.proofs.read_v1.Kinds as read-v1-kinds
use Rattle.settings_file.proofs.read_file.Reads as read-file
use Rattle.settings_file.proofs.read_file.Kinds as read-file-kinds
use Rattle.settings_file.proofs.write_file.Reads as write-file
use Rattle.settings_file.proofs.write_file.Kinds as write-file-kinds
use Rattle.settings_updater.proofs.trk_settings_v1_refusal.Reads as v1_refusal
use Rattle.settings_updater.proofs.trk_settings_v1_refusal.Kinds as v1-refusal-kinds
use Rattle.settings_updater.proofs.trk_settings_refusal.Reads as refusal-of
use Rattle.settings_updater.proofs.trk_settings_refusal.Kinds as refusal-kinds
use Rattle.settings_updater.proofs.trk_settings_version.Reads as version
use Rattle.settings_updater.proofs.trk_settings_version.Kinds as version-kinds
use Rattle.settings_updater.proofs.trk_settings_manager.Reads as manager
use Rattle.settings_updater.proofs.trk_settings_manager.Kinds as manager-kinds
use Rattle.settings_updater.proofs.trk_settings_least.Reads as least
use Rattle.settings_updater.proofs.trk_settings_least.Kinds as least-kinds
use Rattle.settings_updater.proofs.trk_settings_greatest.Reads as greatest
use Rattle.settings_updater.proofs.trk_settings_greatest.Kinds as greatest-kinds
use Rattle.settings_updater.proofs.trk_settings_rule.Reads as rule
use Rattle.settings_updater.proofs.trk_settings_rule.Kinds as rule-kinds
use Rattle.settings_updater.proofs.trk_settings_limit.Reads as limit
use Rattle.settings_updater.proofs.trk_settings_limit.Kinds as limit-kinds
use Rattle.settings_updater.proofs.trk_settings_count.Reads as count
use Rattle.settings_updater.proofs.trk_settings_count.Kinds as count-kinds
use Rattle.settings_updater.proofs.trk_settings_identifier.Reads as identifier
use Rattle.settings_updater.proofs.trk_settings_identifier.Kinds as identifier-kinds
use Rattle.settings_updater.proofs.trk_settings_second.Reads as second
use Rattle.settings_updater.proofs.trk_settings_second.Kinds as second-kinds
use Rattle.settings_updater.proofs.trk_settings_second_limit.Reads as second-limit
use Rattle.settings_updater.proofs.trk_settings_second_limit.Kinds as second-limit-kinds
use Rattle.settings_updater.proofs.trk_settings_shelf.Reads as shelf
use Rattle.settings_updater.proofs.trk_settings_shelf.Kinds as shelf-kinds
use Rattle.settings_updater.proofs.trk_settings_save.Reads as save
use Rattle.settings_updater.proofs.trk_settings_save.Kinds as save-kinds

-- what each asks holds of any arguments
pub record FileAsksNothing : Type 1 where
  pub read-v1 : (κs : _) (a : _) → read-v1.Pre κs a
  pub read-file : (κs : _) (a : _) → read-file.Pre κs a
  pub write-file : (κs : _) (a : _) → write-file.Pre κs a
  pub v1_refusal : (κs : _) (a : _) → v1_refusal.Pre κs a
  pub refusal : (κs : _) (a : _) → refusal-of.Pre κs a
  pub version : (κs : _) (a : _) → version.Pre κs a
  pub manager : (κs : _) (a : _) → manager.Pre κs a
  pub least : (κs : _) (a : _) → least.Pre κs a
  pub greatest : (κs : _) (a : _) → greatest.Pre κs a
  pub rule : (κs : _) (a : _) → rule.Pre κs a
  pub limit : (κs : _) (a : _) → limit.Pre κs a
  pub count : (κs : _) (a : _) → count.Pre κs a
  pub identifier : (κs : _) (a : _) → identifier.Pre κs a
  pub second : (κs : _) (a : _) → second.Pre κs a
  pub second-limit : (κs : _) (a : _) → second-limit.Pre κs a
  pub shelf : (κs : _) (a : _) → shelf.Pre κs a
  pub save : (κs : _) (a : _) → save.Pre κs a

-- the readers, and the writer with every byte of its buffer
pub record FilesAre : Type 1 where
  pub read-v1 : (κs : _) (a : _) (r : _) (e : _) → read-v1.Post κs a r e → r ≡ old_read a.0.now
  pub read-file : (κs : _) (a : _) (r : _) (e : _) → read-file.Post κs a r e → r ≡ new_read a.0.now
  pub write-file : (κs : _) (a : _) (r : _) (e : _) → write-file.Post κs a r e
      → (r ≡ refusal (write_tests (length a.0.now) a.1.0 a.1.1.0)) × (e.0.now ≡ file_written a.0.now a.1.0 a.1.1.0)

-- an updater's functions: the new reader's numbers, and the file at another version
pub record UpdaterIs : Type 1 where
  pub v1_refusal : (κs : _) (a : _) (r : _) (e : _) → v1_refusal.Post κs a r e → r ≡ (old_read a.0.now).number
  pub refusal : (κs : _) (a : _) (r : _) (e : _) → refusal-of.Post κs a r e → r ≡ (new_read a.0.now).number
  pub version : (κs : _) (a : _) (r : _) (e : _) → version.Post κs a r e → r ≡ file_version a.0.now
  pub manager : (κs : _) (a : _) (r : _) (e : _) → manager.Post κs a r e → r ≡ (new_read a.0.now).settings.manager
  pub least : (κs : _) (a : _) (r : _) (e : _) → least.Post κs a r e → r ≡ (new_read a.0.now).settings.least
  pub greatest : (κs : _) (a : _) (r : _) (e : _) → greatest.Post κs a r e → r ≡ (new_read a.0.now).settings.greatest
  pub rule : (κs : _) (a : _) (r : _) (e : _) → rule.Post κs a r e → r ≡ file_rule a.0.now
  pub limit : (κs : _) (a : _) (r : _) (e : _) → limit.Post κs a r e → r ≡ (new_read a.0.now).settings.limit
  pub count : (κs : _) (a : _) (r : _) (e : _) → count.Post κs a r e → r ≡ (new_read a.0.now).settings.count
  pub identifier : (κs : _) (a : _) (r : _) (e : _) → identifier.Post κs a r e → r ≡ file_identifier a.0.now a.1.0
  pub second : (κs : _) (a : _) (r : _) (e : _) → second.Post κs a r e → r ≡ file_second a.0.now
  pub second-limit : (κs : _) (a : _) (r : _) (e : _) → second-limit.Post κs a r e → r ≡ file_second_limit a.0.now
  pub shelf : (κs : _) (a : _) (r : _) (e : _) → shelf.Post κs a r e → r ≡ (new_read a.0.now).settings.shelf
  pub save : (κs : _) (a : _) (r : _) (e : _) → save.Post κs a r e
      → (r ≡ save_number a.0.now a.1.0 (length a.1.1.0.now)) × (e.1.1.0.now ≡ saved a.0.now a.1.0 a.1.1.0.now)

-- a file is only read, a buffer is lent to be changed; a version has 16 bits, a place 64
pub record FileLent : Type 3 where
  pub read-v1 : read-v1-kinds.ps ≡ p_shr_s (rt_f (f_int w8)) 0 tt ∷ []
  pub read-file : read-file-kinds.ps ≡ p_shr_s (rt_f (f_int w8)) 0 tt ∷ []
  pub write-file : (take 2 write-file-kinds.ps ≡ p_mut_s (rt_f (f_int w8)) 0 tt ∷ p_num w16 ∷ []) × (length write-file-kinds.ps ≡ 3)
  pub v1_refusal : v1-refusal-kinds.ps ≡ p_shr_s (rt_f (f_int w8)) 0 tt ∷ []
  pub refusal : refusal-kinds.ps ≡ p_shr_s (rt_f (f_int w8)) 0 tt ∷ []
  pub version : version-kinds.ps ≡ p_shr_s (rt_f (f_int w8)) 0 tt ∷ []
  pub manager : manager-kinds.ps ≡ p_shr_s (rt_f (f_int w8)) 0 tt ∷ []
  pub least : least-kinds.ps ≡ p_shr_s (rt_f (f_int w8)) 0 tt ∷ []
  pub greatest : greatest-kinds.ps ≡ p_shr_s (rt_f (f_int w8)) 0 tt ∷ []
  pub rule : rule-kinds.ps ≡ p_shr_s (rt_f (f_int w8)) 0 tt ∷ []
  pub limit : limit-kinds.ps ≡ p_shr_s (rt_f (f_int w8)) 0 tt ∷ []
  pub count : count-kinds.ps ≡ p_shr_s (rt_f (f_int w8)) 0 tt ∷ []
  pub second : second-kinds.ps ≡ p_shr_s (rt_f (f_int w8)) 0 tt ∷ []
  pub second-limit : second-limit-kinds.ps ≡ p_shr_s (rt_f (f_int w8)) 0 tt ∷ []
  pub shelf : shelf-kinds.ps ≡ p_shr_s (rt_f (f_int w8)) 0 tt ∷ []
  pub identifier : identifier-kinds.ps ≡ p_shr_s (rt_f (f_int w8)) 0 tt ∷ p_num w64 ∷ []
  pub save : save-kinds.ps ≡ p_shr_s (rt_f (f_int w8)) 0 tt ∷ p_num w16 ∷ p_mut_s (rt_f (f_int w8)) 1 tt ∷ []

-- any two results that a promise allows are equal
pub record FileDeterminacy : Type 1 where
  pub read-v1 : Determinate read-v1.Post
  pub read-file : Determinate read-file.Post
  pub write-file : (κs : _) (a : _) (r r' : _) (e e' : _) → write-file.Post κs a r e → write-file.Post κs a r' e' → (r ≡ r') × (e.0.now ≡ e'.0.now)
  pub v1_refusal : Determinate v1_refusal.Post
  pub refusal : Determinate refusal-of.Post
  pub version : Determinate version.Post
  pub manager : Determinate manager.Post
  pub least : Determinate least.Post
  pub greatest : Determinate greatest.Post
  pub rule : Determinate rule.Post
  pub limit : Determinate limit.Post
  pub count : Determinate count.Post
  pub identifier : Determinate identifier.Post
  pub second : Determinate second.Post
  pub second-limit : Determinate second-limit.Post
  pub shelf : Determinate shelf.Post
  pub save : (κs : _) (a : _) (r r' : _) (e e' : _) → save.Post κs a r e → save.Post κs a r' e' → (r ≡ r') × (e.1.1.0.now ≡ e'.1.1.0.now)

pub record SettingsFile : Type 3 where
  pub asks : FileAsksNothing
  pub files : FilesAre
  pub updater : UpdaterIs
  pub lent : FileLent
  pub determinate : FileDeterminacy
  -- where each field stands, and worked files
  pub begins : Begins
  pub layout : Layout
  pub worked : Worked
  -- 35, 31, 32, 35 and 16 in their order, and zeros with them; the writer's 16, 32 and 8. (What 16 asks of settings, `Soundness` says.)
  pub readers : Readers
  pub writer : Writer
  -- one encoding at each version, without loss; a version 1 file means the same to both readers
  pub encoding : OneEncoding
  pub both : BothReaders
  -- an updater is answered these
  pub answers : Updater
