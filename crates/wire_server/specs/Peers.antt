-- What a listener may show: what its peers send, what was written to them and left unread of them, and how many accepts
-- failed.
use Rattle.std.specs.Prelude.{◌≡◌, ⊤, ℕ, ◌+◌, List, [], ◌++◌, map, Option, Some, None}

-- the next peers were accepted, of whom this is known of what they send
abbrev pub AcceptsPeers : Option (List (List ℕ)) → Option (List (List ℕ)) → List (Option (List ℕ)) → Type 0
AcceptsPeers None new inputs = ⊤
AcceptsPeers (Some all) None inputs = ⊥
AcceptsPeers (Some all) (Some rest) inputs = (sent : List (List ℕ)) × (inputs ≡ map Some sent) × (all ≡ sent ++ rest)

-- further connections were closed, and this is known of what was written on them, or of what was left unread of them
abbrev pub ClosesPeers : Option (List (List ℕ)) → Option (List (List ℕ)) → List (Option (List ℕ)) → Type 0
ClosesPeers None new known = ⊤
ClosesPeers (Some all) None known = ⊥
ClosesPeers (Some all) (Some more) known =
    (each : List (List ℕ)) × (known ≡ map Some each) × (more ≡ all ++ each)

-- nothing was written yet
abbrev pub IsFresh : Option (List ℕ) → Type 0
IsFresh None = ⊤
IsFresh (Some bytes) = bytes ≡ []

-- further accepts failed, as many as `more`
abbrev pub CountsFaults : Option ℕ → Option ℕ → ℕ → Type 0
CountsFaults None new more = ⊤
CountsFaults (Some n) None more = ⊥
CountsFaults (Some n) (Some all) more = all ≡ n + more
