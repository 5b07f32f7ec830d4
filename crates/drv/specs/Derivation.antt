-- Derivations, and the text that each is written as.
use Rattle.std.specs.Prelude.{◌≡◌, ◌≢◌, ℕ, List, [], ◌∷◌, ◌++◌, map, codes, Option, Some, None, option_map, true}
use Rattle.std.specs.List.{flat_map, filter_map, AllZip, AllPairs}
use Rattle.paths.specs.Names.{is_store_name}
use Rattle.paths.specs.StorePath.{is_base_name, full_path}
use Rattle.drv.specs.Written.{Written, string, value}

pub record Output : Type 0 where
  pub name : List Written
  pub path : List Written
  pub method : List Written
  pub hash : List Written

-- an input: the path of a derivation, and the names of the outputs of that derivation that are used
pub record Input : Type 0 where
  pub path : List Written
  pub names : List (List Written)

pub record Variable : Type 0 where
  pub name : List Written
  pub value : List Written

pub record Derivation : Type 0 where
  pub outputs : List Output
  pub inputs : List Input
  pub sources : List (List Written)
  pub platform : List Written
  pub builder : List Written
  pub arguments : List (List Written)
  pub environment : List Variable

-- parts with a comma between
unfoldable pub commas : List (List ℕ) → List ℕ
commas [] = []
commas (part ∷ parts) = part ++ flat_map (λ p. 44 ∷ p) parts

unfoldable pub tuple : List (List ℕ) → List ℕ
tuple parts = codes "(" ++ commas parts ++ codes ")"

unfoldable pub list : List (List ℕ) → List ℕ
list items = codes "[" ++ commas items ++ codes "]"

unfoldable pub output : Output → List ℕ
output o = tuple (string o.name ∷ string o.path ∷ string o.method ∷ string o.hash ∷ [])

unfoldable pub input : Input → List ℕ
input i = tuple (string i.path ∷ list (map string i.names) ∷ [])

unfoldable pub variable : Variable → List ℕ
variable v = tuple (string v.name ∷ string v.value ∷ [])

-- the whole text
unfoldable pub derivation : Derivation → List ℕ
derivation d =
    codes "Derive"
    ++ tuple (list (map output d.outputs) ∷ list (map input d.inputs) ∷ list (map string d.sources)
    ∷ string d.platform ∷ string d.builder ∷ list (map string d.arguments) ∷ list (map variable d.environment) ∷ [])

-- ---- outputs of a derivation

-- a path text is that of an output: empty where it has no path, else the full path of a base name
abbrev pub IsPathText : List ℕ → List ℕ → Option (List ℕ) → Type 0
IsPathText dir text None = text ≡ []
IsPathText dir text (Some base) = (is_base_name base ≡ true) × (text ≡ full_path dir base)

-- an output has this name, and this path if one is given
pub record IsOutput (dir : List ℕ) (o : Output) (x : List ℕ × Option (List ℕ)) : Type 0 where
  pub name : value o.name ≡ x.0
  pub is_name : is_store_name x.0 ≡ true
  pub path : IsPathText dir (value o.path) x.1

-- a whole text is that of a derivation in a store directory with these outputs, in this order
pub record HasOutputs (dir text : List ℕ) (outputs : List (List ℕ × Option (List ℕ))) : Type 0 where
  pub of : Derivation
  pub written : text ≡ derivation of
  pub outputs_are : AllZip (IsOutput dir) of.outputs outputs

-- no two outputs share a name
abbrev pub HaveOwnNames : List (List ℕ × Option (List ℕ)) → Type 0
HaveOwnNames outputs = AllPairs (λ x y. x.0 ≢ y.0) outputs

-- the name and the path of an output; nothing for an output without a path
abbrev pub with_path : List ℕ × Option (List ℕ) → Option (List ℕ × List ℕ)
with_path x = option_map (λ base. (x.0, base)) x.1

-- the outputs that have a path, in order
unfoldable pub recorded : List (List ℕ × Option (List ℕ)) → List (List ℕ × List ℕ)
recorded outputs = filter_map with_path outputs

-- the recorded outputs of a whole text
pub record Records (dir text : List ℕ) (found : List (List ℕ × List ℕ)) : Type 0 where
  pub outputs : List (List ℕ × Option (List ℕ))
  pub of : HasOutputs dir text outputs
  pub own : HaveOwnNames outputs
  pub are : found ≡ recorded outputs

-- the text is that of no derivation with outputs in the store directory
abbrev pub IsBad : List ℕ → List ℕ → Type 0
IsBad dir text = (outputs : List (List ℕ × Option (List ℕ))) → ¬ (HasOutputs dir text outputs)

-- a derivation of which two outputs share a name
pub record SharesName (dir text : List ℕ) : Type 0 where
  pub outputs : List (List ℕ × Option (List ℕ))
  pub of : HasOutputs dir text outputs
  pub shared : ¬ (HaveOwnNames outputs)
