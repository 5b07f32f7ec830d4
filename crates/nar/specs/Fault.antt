-- What is wrong with bytes that are no archive: the first test that fails after the longest good prefix.
use Rattle.std.specs.Prelude.{◌≡◌, ◌≢◌, ℕ, ◌-◌, ◌<◌, ◌≤◌, List, [], ◌∷◌, ◌++◌, length, IsTrue, MatchResult, codes, ◌⊎◌}
use Rattle.std.specs.List.{AllByRecursion}
use Rattle.nar.specs.declared.error.NarError.{NarError}
use Rattle.nar.specs.declared.error.NarError.TheVariants.{Truncated, BadTag, BadPadding, BadName, NotSorted, TooDeep}
use Rattle.nar.specs.declared.error.NarError.TheVariants.{Trailing, TooLarge, Memory}
use Rattle.nar.specs.String.{string_at}
use Rattle.nar.specs.Tree.{Tree, is_name, IsLegal}
use Rattle.nar.specs.Archive.{Part, name, node, spelled, archive, IsShallow, spelling, limit}

-- the parts are an archive, the limits on bytes and nesting set aside
abbrev pub IsWhole : List Part → Type 0
IsWhole parts = (t : Tree) × IsLegal t × (archive t ≡ parts)

-- the parts begin an archive, these limits set aside
abbrev pub Begins : List Part → Type 0
Begins parts = (t : Tree) × (rest : List Part) × IsLegal t × (archive t ≡ parts ++ rest)

-- some name may come next
abbrev pub NameMayFollow : List Part → Type 0
NameMayFollow parts = (n : List ℕ) × Begins (parts ++ name n ∷ [])

-- Why the string may not follow the parts.
abbrev pub Refuses : List Part → List ℕ → NarError → Type 0
-- no name may follow, and nothing that is spelled so
Refuses parts s BadTag = (NameMayFollow parts → ⊥) × ((p : Part) → spelled p ≡ s → Begins (parts ++ p ∷ []) → ⊥)
-- a name may follow, and the string is against the rules
Refuses parts s BadName = NameMayFollow parts × (IsTrue (is_name s) → ⊥)
-- a name may follow, but not this one
Refuses parts s NotSorted = NameMayFollow parts × IsTrue (is_name s) × (Begins (parts ++ name s ∷ []) → ⊥)
-- `TooDeep` is for the word before a node that would be the 257th
Refuses parts s TooDeep = (depth : ℕ) × (256 < depth) × (s ≡ codes "node") × Begins (parts ++ node depth ∷ [])
Refuses parts s Truncated = ⊥
Refuses parts s BadPadding = ⊥
Refuses parts s Trailing = ⊥
Refuses parts s TooLarge = ⊥
Refuses parts s Memory = ⊥

-- What is wrong after the parts: more bytes after an archive, or the first test that the next string fails.
abbrev pub Fails : List Part → List ℕ → NarError → Type 0
Fails parts rest fault =
    (IsWhole parts × (rest ≢ []) × (fault ≡ Trailing))
    ⊎ ((IsWhole parts → ⊥)
    × MatchResult (string_at (limit - length (spelling parts)) rest) (λ next. Refuses parts next.0 fault)
    (λ early. fault ≡ early))

-- A good prefix of the input: whole strings within the limits that begin an archive. The rest follows.
pub record IsGoodPrefix (input : List ℕ) (parts : List Part) (rest : List ℕ) : Type 0 where
  pub prefix : input ≡ spelling parts ++ rest
  pub begins : Begins parts
  pub shallow : AllByRecursion IsShallow parts
  pub fits : length (spelling parts) ≤ limit

-- The input has this fault: it comes after the longest good prefix.
pub record IsFault (input : List ℕ) (fault : NarError) : Type 0 where
  pub parts : List Part
  pub rest : List ℕ
  pub good : IsGoodPrefix input parts rest
  pub longest : (others : List Part) (more : List ℕ) → IsGoodPrefix input others more
      → length (spelling others) ≤ length (spelling parts)
  pub fails : Fails parts rest fault
