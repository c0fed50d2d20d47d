-- The whole listing of a text.
use Rattle.std.specs.Prelude.{ℕ, Bool, true, false, List, [], ◌++◌, Some, None, Option}
use Rattle.std.specs.List.{flat_map}
use Rattle.token.specs.Told.{Told, gave, refused, refusal}
use Rattle.token.specs.declared.fault.Fault.{Fault}
use Rattle.source.specs.Admission.{admission}
use Rattle.lexer.specs.Runs.{Meaning, tokens_of}
use Rattle.lexer.specs.States.{Rooms}
use Rattle.listing.specs.Lines.{ended, fault_text, token_line}

-- tables of 359 levels and 1,024 openers
abbrev pub tables : Rooms
tables = record { levels = 359; openers = 1024 }

abbrev pub ending : Option Fault → List ℕ
ending None = []
ending (Some f) = ended (fault_text (refusal f))

-- a line for each token, and one for the fault that ends them
abbrev pub listed : List ℕ → Meaning → List ℕ
listed text m = flat_map (λ t. ended (token_line text t)) m.tokens ++ ending m.ending

-- they end without a fault
abbrev pub clean : Option Fault → Bool
clean None = true
clean (Some f) = false

abbrev pub listing_on : Told (Unit {0}) → List ℕ → List ℕ
listing_on (gave _) bs = listed bs (tokens_of bs tables)
listing_on (refused r) bs = ended (fault_text r)

abbrev pub listing : List ℕ → List ℕ
listing bs = listing_on (admission bs) bs

abbrev pub sound_on : Told (Unit {0}) → List ℕ → Bool
sound_on (gave _) bs = clean (tokens_of bs tables).ending
sound_on (refused r) bs = false

abbrev pub sound : List ℕ → Bool
sound bs = sound_on (admission bs) bs
