-- Worked texts, line by line.
use Rattle.std.specs.Prelude.{◌≡◌, ℕ, List, [], ◌∷◌, ◌++◌, codes, Some, None, option_map}
use Rattle.nar.specs.declared.error.NarError.TheVariants as archives
use Rattle.drv.specs.declared.error.DrvError.TheVariants as derivations
use Rattle.paths.specs.declared.content_address.Method.TheVariants.{Source, Text}
use Rattle.policy.specs.declared.error.KeyWord.TheVariants.{StoreDir}
use Rattle.policy.specs.declared.kinds.Rule.TheVariants.{Connect, Live}
use Rattle.model.specs.Reply.{path, record_of, archive_of, listing_of, paths, roots, changed, generation, runtime_count}
use Rattle.model.specs.Reply.{temporary_count, freed, usage, done, denied, refused, failed, memory, size, disk}
use Rattle.model.specs.declared.refusal.Refusal.TheVariants.{CaMismatch, NotValid, MissingReference, NarHashMismatch}
use Rattle.model.specs.declared.refusal.Refusal.TheVariants.{SelfReference, NoRoot, NoProfile, NoGeneration}
use Rattle.model.specs.declared.refusal.Refusal.TheVariants.{CurrentGeneration, NoOlderGeneration, GenerationLimit}
use Rattle.model.specs.declared.refusal.Refusal.TheVariants.{TooManyReferences, BadRootName, BadLabel, BadSession}
use Rattle.model.specs.declared.refusal.Refusal.TheVariants.{BadConfig, BadHead, BadBodyLength}
use Rattle.model.specs.Faults.{archive_refusal, derivation_refusal}
use Rattle.model.specs.Refusals.{refusal_line}
use Rattle.report.specs.Narinfo.{narinfo}
use Rattle.report.specs.Replies.{reply_text}

-- a store directory, and two base names in it
abbrev pub dir : List ℕ
dir = codes "/nix/store"

abbrev pub p : List ℕ
p = codes "00000000000000000000000000000000-p"

abbrev pub x : List ℕ
x = codes "11111111111111111111111111111111-x"

-- a rule; a live path, to a caller who sees no runtime label and to one who does
pub record HasWorkedDenials : Type 0 where
  pub connect : reply_text dir (denied Connect None) ≡ codes "denied: connect\n"
  pub hidden : reply_text dir (denied Live (Some (codes "{censored}", x)))
      ≡ codes "denied: live {censored} /nix/store/11111111111111111111111111111111-x\n"
  pub seen : reply_text dir (denied Live (Some (codes "/proc/2/exe", x)))
      ≡ codes "denied: live /proc/2/exe /nix/store/11111111111111111111111111111111-x\n"

-- what is wrong with an archive and with a derivation, the other refusals of a request, some of other kinds, and the
-- failures
pub record HasWorkedRefusals : Type 0 where
  pub truncated : option_map refusal_line (archive_refusal archives.Truncated) ≡ Some (codes "refused: 1 truncated\n")
  pub bad_tag : option_map refusal_line (archive_refusal archives.BadTag) ≡ Some (codes "refused: 2 bad-tag\n")
  pub bad_padding : option_map refusal_line (archive_refusal archives.BadPadding)
      ≡ Some (codes "refused: 3 bad-padding\n")
  pub bad_name : option_map refusal_line (archive_refusal archives.BadName) ≡ Some (codes "refused: 4 bad-name\n")
  pub not_sorted : option_map refusal_line (archive_refusal archives.NotSorted) ≡ Some (codes "refused: 5 not-sorted\n")
  pub too_deep : option_map refusal_line (archive_refusal archives.TooDeep) ≡ Some (codes "refused: 6 too-deep\n")
  pub trailing : option_map refusal_line (archive_refusal archives.Trailing) ≡ Some (codes "refused: 7 trailing\n")
  pub too_large : option_map refusal_line (archive_refusal archives.TooLarge) ≡ Some (codes "refused: 8 too-large\n")
  pub ca_mismatch : reply_text dir (refused CaMismatch) ≡ codes "refused: 16 ca-mismatch\n"
  pub malformed : option_map refusal_line (derivation_refusal derivations.BadDerivation)
      ≡ Some (codes "refused: 17 bad-derivation\n")
  pub doubled : option_map refusal_line (derivation_refusal derivations.DoubleOutput)
      ≡ Some (codes "refused: 18 double-output\n")
  pub not_valid : reply_text dir (refused NotValid) ≡ codes "refused: 23 not-valid\n"
  pub reference : reply_text dir (refused MissingReference) ≡ codes "refused: 24 missing-reference\n"
  pub hash : reply_text dir (refused NarHashMismatch) ≡ codes "refused: 25 nar-hash-mismatch\n"
  pub self_reference : reply_text dir (refused SelfReference) ≡ codes "refused: 26 self-reference\n"
  pub no_root : reply_text dir (refused NoRoot) ≡ codes "refused: 27 no-root\n"
  pub no_profile : reply_text dir (refused NoProfile) ≡ codes "refused: 28 no-profile\n"
  pub no_generation : reply_text dir (refused NoGeneration) ≡ codes "refused: 29 no-generation\n"
  pub current : reply_text dir (refused CurrentGeneration) ≡ codes "refused: 30 current-generation\n"
  pub no_older : reply_text dir (refused NoOlderGeneration) ≡ codes "refused: 31 no-older-generation\n"
  pub limit : reply_text dir (refused GenerationLimit) ≡ codes "refused: 32 generation-limit\n"
  pub references : reply_text dir (refused TooManyReferences) ≡ codes "refused: 33 too-many-references\n"
  pub root_name : reply_text dir (refused BadRootName) ≡ codes "refused: 34 bad-root-name\n"
  pub label : reply_text dir (refused BadLabel) ≡ codes "refused: 35 bad-label\n"
  pub session : reply_text dir (refused BadSession) ≡ codes "refused: 42 bad-session\n"
  pub configuration : refusal_line (BadConfig StoreDir) ≡ codes "refused: 19 bad-config store-dir\n"
  pub head : refusal_line BadHead ≡ codes "refused: 36 bad-head\n"
  pub body : refusal_line BadBodyLength ≡ codes "refused: 37 bad-length\n"
  pub memory : reply_text dir (failed memory) ≡ codes "failed: memory\n"
  pub size : reply_text dir (failed size) ≡ codes "failed: size\n"
  pub disk : reply_text dir (failed disk) ≡ codes "failed: disk\n"

pub record HasWorkedAnswers : Type 0 where
  pub path : reply_text dir (done (path p)) ≡ codes "/nix/store/00000000000000000000000000000000-p\n"
  pub none : reply_text dir (done (paths [])) ≡ []
  pub two : reply_text dir (done (paths (p ∷ x ∷ [])))
      ≡ codes "/nix/store/00000000000000000000000000000000-p\n/nix/store/11111111111111111111111111111111-x\n"
  pub roots : reply_text dir (done (roots ((codes "a", p) ∷ (codes "b", p) ∷ [])))
      ≡ codes "a /nix/store/00000000000000000000000000000000-p\nb /nix/store/00000000000000000000000000000000-p\n"
  pub archive : reply_text dir (done (archive_of (13 ∷ 0 ∷ 255 ∷ []))) ≡ 13 ∷ 0 ∷ 255 ∷ []
  pub listing : reply_text dir (done (listing_of (codes "r 10 .\n"))) ≡ codes "r 10 .\n"
  pub changed : reply_text dir (done changed) ≡ codes "done\n"
  pub generation : reply_text dir (done (generation 2)) ≡ codes "generation 2\n"
  pub runtime : reply_text dir (done (runtime_count 1)) ≡ codes "runtime roots 1\n"
  pub temporary : reply_text dir (done (temporary_count 0)) ≡ codes "temporary roots 0\n"
  pub nothing : reply_text dir (done (freed [] 0)) ≡ codes "freed 0 paths 0 bytes\n"
  pub freed : reply_text dir (done (freed (p ∷ x ∷ []) 224))
      ≡ codes "/nix/store/00000000000000000000000000000000-p\n"
      ++ codes "/nix/store/11111111111111111111111111111111-x\n"
      ++ codes "freed 2 paths 224 bytes\n"

-- a live path of 112 bytes next to a dead one of 208; numbers wider than their columns
pub record HasWorkedUsage : Type 0 where
  pub two : reply_text dir
      (done (usage (record { paths = 1; bytes = 112 }) (record { paths = 1; bytes = 208 })
      (record { paths = 2; bytes = 320 })))
      ≡ codes "class       paths            bytes\n"
      ++ codes "live            1              112\n"
      ++ codes "dead            1              208\n"
      ++ codes "total           2              320\n"
  pub wide : reply_text dir
      (done (usage (record { paths = 12345678901; bytes = 12345678901234567 }) (record { paths = 0; bytes = 0 })
      (record { paths = 12345678901; bytes = 12345678901234567 })))
      ≡ codes "class       paths            bytes\n"
      ++ codes "live   12345678901 12345678901234567\n"
      ++ codes "dead            0                0\n"
      ++ codes "total  12345678901 12345678901234567\n"

-- the digest of the archive of a file with the contents `mycontent` and a line feed
abbrev pub digest : List ℕ
digest = 43 ∷ 254 ∷ 246 ∷ 125 ∷ 232 ∷ 115 ∷ 197 ∷ 69 ∷ 81 ∷ 216 ∷ 132 ∷ 253 ∷ 171 ∷ 48 ∷ 85 ∷ 216 ∷ 77 ∷ 87 ∷ 62 ∷ 101
    ∷ 78 ∷ 250 ∷ 121 ∷ 219 ∷ 60 ∷ 13 ∷ 123 ∷ 152 ∷ 136 ∷ 63 ∷ 158 ∷ 227 ∷ []

-- Three narinfos of objects with this archive: a source object named `myfile`; an object with references and a
-- deriver; and an object with a deriver and a content address.
pub record HasWorkedNarinfo : Type 0 where
  pub source : narinfo dir
      (record {
        path = codes "xv2iccirbrvklck36f1g7vldn5v58vck-myfile";
        hash = digest;
        size = 128;
        references = [];
        deriver = None;
        ca = Some (record { method = Source; digest = digest });
      })
      ≡ codes "StorePath: /nix/store/xv2iccirbrvklck36f1g7vldn5v58vck-myfile\n"
      ++ codes "URL: nar/xv2iccirbrvklck36f1g7vldn5v58vck-myfile\n"
      ++ codes "Compression: none\n"
      ++ codes "FileHash: sha256:1qwy7y49hyqd7kdpkyjfclz5fkfqalqapzc4v18lbibkx1yzdzib\n"
      ++ codes "FileSize: 128\n"
      ++ codes "NarHash: sha256:1qwy7y49hyqd7kdpkyjfclz5fkfqalqapzc4v18lbibkx1yzdzib\n"
      ++ codes "NarSize: 128\n"
      ++ codes "References: \n"
      ++ codes "CA: fixed:r:sha256:1qwy7y49hyqd7kdpkyjfclz5fkfqalqapzc4v18lbibkx1yzdzib\n"
  pub derived : narinfo dir
      (record {
        path = x;
        hash = digest;
        size = 128;
        references = p ∷ x ∷ [];
        deriver = Some (codes "22222222222222222222222222222222-y.drv");
        ca = None;
      })
      ≡ codes "StorePath: /nix/store/11111111111111111111111111111111-x\n"
      ++ codes "URL: nar/11111111111111111111111111111111-x\n"
      ++ codes "Compression: none\n"
      ++ codes "FileHash: sha256:1qwy7y49hyqd7kdpkyjfclz5fkfqalqapzc4v18lbibkx1yzdzib\n"
      ++ codes "FileSize: 128\n"
      ++ codes "NarHash: sha256:1qwy7y49hyqd7kdpkyjfclz5fkfqalqapzc4v18lbibkx1yzdzib\n"
      ++ codes "NarSize: 128\n"
      ++ codes "References: 00000000000000000000000000000000-p 11111111111111111111111111111111-x\n"
      ++ codes "Deriver: 22222222222222222222222222222222-y.drv\n"
  pub both : reply_text dir
      (done (record_of
      (record {
        path = x;
        hash = digest;
        size = 128;
        references = p ∷ [];
        deriver = Some (codes "22222222222222222222222222222222-y.drv");
        ca =
            Some (record { method = Text; digest = digest });
      })))
      ≡ codes "StorePath: /nix/store/11111111111111111111111111111111-x\n"
      ++ codes "URL: nar/11111111111111111111111111111111-x\n"
      ++ codes "Compression: none\n"
      ++ codes "FileHash: sha256:1qwy7y49hyqd7kdpkyjfclz5fkfqalqapzc4v18lbibkx1yzdzib\n"
      ++ codes "FileSize: 128\n"
      ++ codes "NarHash: sha256:1qwy7y49hyqd7kdpkyjfclz5fkfqalqapzc4v18lbibkx1yzdzib\n"
      ++ codes "NarSize: 128\n"
      ++ codes "References: 00000000000000000000000000000000-p\n"
      ++ codes "Deriver: 22222222222222222222222222222222-y.drv\n"
      ++ codes "CA: text:sha256:1qwy7y49hyqd7kdpkyjfclz5fkfqalqapzc4v18lbibkx1yzdzib\n"
