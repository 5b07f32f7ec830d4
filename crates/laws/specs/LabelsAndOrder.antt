-- Laws of the labels of roots and of their order.
use Rattle.std.specs.Prelude.{◌≡◌, ℕ, ◌++◌, List, ◌∷◌, codes, decimal, Contains}
use Rattle.paths.specs.Root.{Kind, permanent, user, profile, runtime, temporary, Root}
use Rattle.model.specs.World.{Path, Temporary, World, permanent_root, user_root, generation_root, runtime_root}
use Rattle.model.specs.World.{temporary_root, roots_of}

-- the root of each entry of a table: its kind, its target, and its label as it is written
pub record AreLabelled : Type 0 where
  pub permanent_ : (name : List ℕ) (t : Path)
      → permanent_root (name, t) ≡ record { kind = permanent; target = t; label = codes "gcroots/" ++ name }
  pub user_ : (owner name : List ℕ) (t : Path)
      → user_root ((owner, name), t)
      ≡ record { kind = user; target = t; label = codes "gcroots/per-user/" ++ owner ++ codes "/" ++ name }
  pub generation_ : (owner name : List ℕ) (n : ℕ) (t : Path) → generation_root (owner, name) (n, t)
      ≡ record {
        kind = profile;
        target = t;
        label = codes "profiles/per-user/" ++ owner ++ codes "/" ++ name ++ codes "-" ++ decimal n ++ codes "-link";
      }
  pub runtime_ : (label : List ℕ) (t : Path)
      → runtime_root (label, t) ≡ record { kind = runtime; target = t; label = label }
  pub temporary_ : (t : Temporary)
      → temporary_root t
      ≡ record { kind = temporary; target = t.path; label = codes "{temp:" ++ decimal t.session ++ codes "}" }

-- a root of the second kind may come after one of the first: permanent roots come first, then user roots, profiles,
-- runtime roots, and temporary roots last
abbrev pub MayFollow : Kind → Kind → Type 0
MayFollow permanent permanent = Unit {0}
MayFollow permanent user = Unit {0}
MayFollow permanent profile = Unit {0}
MayFollow permanent runtime = Unit {0}
MayFollow permanent temporary = Unit {0}
MayFollow user permanent = ⊥
MayFollow user user = Unit {0}
MayFollow user profile = Unit {0}
MayFollow user runtime = Unit {0}
MayFollow user temporary = Unit {0}
MayFollow profile permanent = ⊥
MayFollow profile user = ⊥
MayFollow profile profile = Unit {0}
MayFollow profile runtime = Unit {0}
MayFollow profile temporary = Unit {0}
MayFollow runtime runtime = Unit {0}
MayFollow runtime temporary = Unit {0}
MayFollow runtime _ = ⊥
MayFollow temporary temporary = Unit {0}
MayFollow temporary _ = ⊥

-- the roots of a world come in this order
abbrev pub KindsInOrder : Type 0
KindsInOrder =
    (w : World) (before : List Root) (r : Root) (after : List Root) → roots_of w ≡ before ++ r ∷ after → (next : Root)
    → Contains after next → MayFollow r.kind next.kind
