-- What is asked of a store, by the words and the input of a command line.
use Rattle.std.proofs.Common.{◌≡◌, ◌⊎◌, ℕ, true, false, List, [], map, take, Option, Some, None, option_map, Result, Ok}
use Rattle.std.proofs.Common.{Err, inl, inr, ap, ap₂, subst, refl, sym, ◌∙◌}
use Rattle.std.specs.Prelude.{IfSome}
use Rattle.std.specs.List.{list_all}
use Rattle.std.specs.Option.{option_map_or}
use Rattle.paths.specs.StorePath.{base_of}
use Rattle.model.specs.World.{Path}
use Rattle.policy.specs.Caller.{Caller}
use Rattle.model.specs.Request.{Request}
use Rattle.model.specs.Step.{Step}
use Rattle.store_types.specs.declared.requests.Request.{Request as Made}
use Rattle.store_types.specs.View.{request_view}
use Rattle.model.specs.declared.refusal.Refusal.{Refusal}
use Rattle.model.specs.declared.refusal.Refusal.TheVariants.{BadStorePath}
use Rattle.clap.specs.Walk.{Text}
use Rattle.tool_words.specs.Asked.{Asked, unroot_view}
use Rattle.tool_words.specs.declared.line.Unrooted.{Unrooted}
use Rattle.tool_words.specs.declared.line.Unrooted.TheVariants as unrooted
use Rattle.model.specs.declared.failures.Failure.TheVariants.{Memory, Size, Disk, File, Input, Output}
use Rattle.tool_pure.specs.declared.stops.Stop.{Stop}
use Rattle.tool_pure.specs.declared.stops.Stop.TheVariants.{Refused, Failed}
use Rattle.tool_pure.specs.Object.{is_path_text, named_fault}
use Rattle.report.specs.Outputs.{Stream}
use Rattle.tool_pure.specs.Stream.{IsStopBy}
use Rattle.tool.specs.Requests.{Ask, Gives, IsAsked, IsAskedBy, IsAskedOver, StepsAs, asks, at_once, drop_root}
use Rattle.tool.specs.Requests.{on_object, on_path, on_paths, with_bytes}

-- ---- requests that are made

pub by_same : (made mid wanted : Request) → made ≡ mid → StepsAs mid wanted → StepsAs made wanted
by_same made mid wanted same steps = subst (λ r. StepsAs r wanted) (sym same) steps

pub same_steps : (made wanted : Request) → made ≡ wanted → StepsAs made wanted
same_steps made wanted same = λ s w c reply next step. subst (λ r. Step s w c r reply next) same step

-- where nothing is read, the input doesn't fail either way
pub unread : (fails : Type 0) (asks : Result Request Refusal → Type 0) (made : Result Made Stop) → IsAsked ⊥ asks made
    → IsAsked fails asks made
unread fails asks (Ok q) is = is
unread fails asks (Err (Refused refusal)) is = is
unread fails asks (Err (Failed Memory)) is = tt
unread fails asks (Err (Failed Input)) is = absurd is
unread fails asks (Err (Failed File)) is = absurd is
unread fails asks (Err (Failed Output)) is = absurd is
unread fails asks (Err (Failed Size)) is = absurd is
unread fails asks (Err (Failed Disk)) is = absurd is

pub over : (fails : Type 0) (ask : List ℕ → Result Request Refusal → Type 0) (known : Option (List ℕ))
    (made : Result Made Stop) → ((bytes : List ℕ) → IsAsked ⊥ (ask bytes) made)
    → IsAskedOver fails ask known made
over fails ask None made h = ([], unread fails (ask []) made (h []))
over fails ask (Some bytes) made h = unread fails (ask bytes) made (h bytes)

pub plain_asked : (wanted : Request) (q : Made) → request_view q ≡ wanted → IsAsked ⊥ (Gives (Ok wanted)) (Ok q)
plain_asked wanted q same = (wanted, refl, same_steps (request_view q) wanted same)

pub path_asked : (dir text : List ℕ) (ask : Path → Request) (p : Path) (q : Made) → request_view q ≡ ask p
    → p ≡ base_of dir text → is_path_text dir text ≡ true
    → IsAsked ⊥ (Gives (on_path dir text ask)) (Ok q)
path_asked dir text ask p q same base is =
    (ask (base_of dir text), rw is refl, same_steps (request_view q) (ask (base_of dir text)) (same ∙ ap ask base))

pub paths_asked : (dir : List ℕ) (named : List Text) (ask : List Path → Request) (ps : List Path) (q : Made)
    → request_view q ≡ ask ps → ps ≡ map (base_of dir) named
    → list_all (is_path_text dir) named ≡ true → IsAsked ⊥ (Gives (on_paths dir named ask)) (Ok q)
paths_asked dir named ask ps q same based is = (
  ask (map (base_of dir) named),
  rw is refl,
  same_steps (request_view q) (ask (map (base_of dir) named)) (same ∙ ap ask based),
)

pub paths_refused : (dir : List ℕ) (named : List Text) (ask : List Path → Request) (stop : Stop)
    → (stop ≡ Failed Memory) ⊎ ((stop ≡ Refused BadStorePath) × (list_all (is_path_text dir) named ≡ false))
    → IsAsked ⊥ (Gives (on_paths dir named ask)) (Err stop)
paths_refused dir named ask stop (inl memory) =
    subst (λ e. IsAsked ⊥ (Gives (on_paths dir named ask)) (Err e)) (sym memory) tt
paths_refused dir named ask stop (inr bad) =
    subst (λ e. IsAsked ⊥ (Gives (on_paths dir named ask)) (Err e)) (sym bad.0) (let wrong = bad.1 in rw wrong refl)

-- ---- objects that are added

module _ (dir : List ℕ) (o : Text × List Text) where
  no_object_by : (fault : Option Refusal) (stop : Stop) (ask : List ℕ → List Path → List ℕ → Request) (bytes : List ℕ)
      → option_map Refused fault ≡ Some stop
      → IsAsked ⊥ (Gives (with_bytes bytes (option_map_or Err fault (Ok (ask o.0 (map (base_of dir) o.1)))))) (Err stop)
  no_object_by None stop ask bytes is = let no : ◌≡◌ {A = Option Stop} None (Some stop) = is in cc
  no_object_by (Some refusal) stop ask bytes is =
      let same : Refused refusal ≡ stop = cc in
      subst (λ e. IsAsked ⊥ (Gives (Err refusal)) (Err e)) same refl

  -- why there is no object
  pub no_object : (stop : Stop) → IsStopBy (named_fault dir o.0 o.1) stop
      → (ask : List ℕ → List Path → List ℕ → Request) (bytes : List ℕ)
      → IsAsked ⊥ (Gives (with_bytes bytes (on_object dir o ask))) (Err stop)
  no_object stop (inl memory) ask bytes =
      subst (λ e. IsAsked ⊥ (Gives (with_bytes bytes (on_object dir o ask))) (Err e)) (sym memory) tt
  no_object stop (inr is) ask bytes = no_object_by (named_fault dir o.0 o.1) stop ask bytes is

  pub object_is : (n : List ℕ) (bases : List Path) → named_fault dir o.0 o.1 ≡ None → n ≡ o.0
      → bases ≡ map (base_of dir) o.1
      → (ask : List ℕ → List Path → List ℕ → Request) → on_object dir o ask ≡ Ok (ask n bases)
  object_is n bases none same based ask =
      ap (λ f. option_map_or Err f (Ok (ask o.0 (map (base_of dir) o.1)))) none
      ∙ ap₂ (λ m rs. Ok (ask m rs)) (sym same) (sym based)

  -- an object of a prefix of the input that is answered as all of it
  pub object_asked : (fails : Type 0) (ask : List ℕ → List Path → List ℕ → Request) (known : Option (List ℕ))
      (n : List ℕ) (bases : List Path) (prefix : List ℕ) (most : ℕ) (q : Made)
      → on_object dir o ask ≡ Ok (ask n bases) → request_view q ≡ ask n bases prefix
      → IfSome known (λ all. prefix ≡ take most all)
      → ((all : List ℕ) → prefix ≡ take most all → StepsAs (ask n bases prefix) (ask n bases all))
      → IsAskedOver fails (λ bytes. Gives (with_bytes bytes (on_object dir o ask))) known (Ok q)
  object_asked fails ask None n bases prefix most q is made is_prefix steps =
      (prefix, (ask n bases prefix, ap (with_bytes prefix) is, same_steps (request_view q) (ask n bases prefix) made))
  object_asked fails ask (Some all) n bases prefix most q is made is_prefix steps = (
    ask n bases all,
    ap (with_bytes all) is,
    by_same (request_view q) (ask n bases prefix) (ask n bases all) made (steps all is_prefix),
  )

-- what the subcommand of an arm asks is asked
pub arm : (t : Asked) (own : Ask) (dir : List ℕ) (c : Caller) (input : Stream) (made : Result Made Stop)
    → asks t ≡ Some own → IsAskedBy own dir c input made
    → (ask : Ask) → asks t ≡ Some ask → IsAskedBy ask dir c input made
arm t own dir c input made is h = λ ask also.
    let both : ◌≡◌ {A = Option Ask} (Some own) (Some ask) = sym is ∙ also in
    let same : own ≡ ask = cc in
    subst (λ (f : Ask). IsAskedBy f dir c input made) same h

-- the same of a subcommand that has but one request
pub plain_arm : (t : Asked) (wanted : Request) (dir : List ℕ) (c : Caller) (input : Stream) (q : Made)
    → asks t ≡ Some (at_once (λ dir c. Ok wanted))
    → request_view q ≡ wanted → (ask : Ask) → asks t ≡ Some ask → IsAskedBy ask dir c input (Ok q)
plain_arm t wanted dir c input q is same =
    arm t (at_once (λ dir c. Ok wanted)) dir c input (Ok q) is
    (over ⊥ (λ bytes. Gives (Ok wanted)) input.old (Ok q) (λ bytes. plain_asked wanted q same))

-- the same of a subcommand that reads no input
pub unread_arm : (t : Asked) (own : List ℕ → Caller → Result Request Refusal) (dir : List ℕ) (c : Caller)
    (input : Stream) (made : Result Made Stop)
    → asks t ≡ Some (at_once (λ dir c. own dir c)) → IsAsked ⊥ (Gives (own dir c)) made → (ask : Ask)
    → asks t ≡ Some ask → IsAskedBy ask dir c input made
unread_arm t own dir c input made is h =
    arm t (at_once (λ dir c. own dir c)) dir c input made is
    (over ⊥ (λ bytes. Gives (own dir c)) input.old made (λ bytes. h))

-- ---- roots

pub unroot_asks : (root : Unrooted) (name : Text)
    → asks (unroot_view root name) ≡ Some (at_once (λ dir c. Ok (drop_root root c name)))
unroot_asks unrooted.Permanent name = refl
unroot_asks (unrooted.User owner) name = refl

-- a request that was made of texts
pub asked_as : (wanted : Result Request Refusal) (r : Request) (q : Made) → wanted ≡ Ok r → request_view q ≡ r
    → IsAsked ⊥ (Gives wanted) (Ok q)
asked_as wanted r q is made = (r, is, same_steps (request_view q) r made)

pub path_is : (dir text : List ℕ) (ask : Path → Request) (p : Path) → p ≡ base_of dir text
    → is_path_text dir text ≡ true → on_path dir text ask ≡ Ok (ask p)
path_is dir text ask p base is = rw is (ap (λ b. Ok (ask b)) (sym base))
