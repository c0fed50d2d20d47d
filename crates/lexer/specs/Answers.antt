-- What a session answers, and how it goes on.
use Rattle.std.specs.Prelude.{ℕ, true, false, cond, List, [], ◌∷◌, length, take, Some, None, Ok, Err, Option, Result, nat_le}
use Rattle.token.specs.declared.fault.Cause.{Cause}
use Rattle.token.specs.declared.fault.Cause.TheVariants as cause
use Rattle.token.specs.declared.fault.Fault.{Fault}
use Rattle.token.specs.declared.fault.Layer.TheVariants as layer
use Rattle.token.specs.declared.kinds.Delimiter.TheVariants.{FormatString}
use Rattle.token.specs.declared.kinds.StringDelimiter.TheVariants.{QuoteDouble, QuoteSingle}
use Rattle.token.specs.declared.kinds.StringKind.{StringKind}
use Rattle.token.specs.declared.place.Position.{Position}
use Rattle.token.specs.declared.place.Token.{Token}
use Rattle.scan.specs.Prefix.{begins}
use Rattle.source.specs.Places.{walk}
use Rattle.rules.specs.Lines.{same}
use Rattle.rules.specs.Strings.{kind_of}
use Rattle.rules.specs.Found.{Found, Lexed, Fails, Unclosed}
use Rattle.rules.specs.Causes.{cause_of_layout}
use Rattle.lexer.specs.declared.seen.Seen.{Seen}
use Rattle.lexer.specs.States.{Inner, Standing, State, ahead, found}
use Rattle.rules.specs.Effects.{effect_of}
use Rattle.rules.specs.declared.parts.Change.{Change}
use Rattle.rules.specs.declared.parts.Change.TheVariants.{Nothing, Marks, Unmarks, SeesColon, Names, Opens, Closes, BeginsFormat, EndsFormat}
use Rattle.rules.specs.declared.parts.Effect.{Effect}
use Rattle.rules.specs.declared.parts.Effect.TheVariants.{Indents, Dedents, Texts, Ends, Other}

-- a fault of the session, at a place and of a length
abbrev pub fault_at : Cause → Position → ℕ → Fault
fault_at c p n = record { cause = c; layer = layer.Session; position = p; length = n; needed = 0 }

-- the fault over a mark that is open at the end
abbrev pub unclosed : Option Token → Position → Fault
unclosed (Some t) p = fault_at cause.UnterminatedInterpolation t.position t.length
unclosed None p = fault_at cause.UnterminatedInterpolation p 0

-- what is found, at the session's place
abbrev pub placed : State → Found → Result Token Fault
placed σ (Lexed k n) = Ok record { kind = k; position = σ.place; length = n }
placed σ (Fails c distance n) = Err (fault_at (cause_of_layout c) (walk distance (ahead σ) σ.place) n)
placed σ Unclosed = Err (unclosed σ.standing.inner.mark σ.place)

abbrev pub full : {A : Type 0} → List A → ℕ → Cause → Option Cause
full xs room c = cond (nat_le room (length xs)) (Some c) None

abbrev pub full_by : State → Change → Option Cause
full_by σ (Opens d) = full σ.standing.inner.openers σ.rooms.openers cause.OpenersFull
full_by σ BeginsFormat = full σ.standing.inner.openers σ.rooms.openers cause.OpenersFull
full_by σ _ = None

-- the table that a token needs and that is full
abbrev pub lacks : State → Effect → Option Cause
lacks σ Indents = full σ.standing.levels σ.rooms.levels cause.LevelsFull
lacks σ (Other c) = full_by σ c
lacks σ _ = None

abbrev pub roomed : Token → Option Cause → Result (Option Token) Fault
roomed t None = Ok (Some t)
roomed t (Some c) = Err (fault_at c t.position t.length)

-- room is looked at last
abbrev pub stored : State → Result Token Fault → Result (Option Token) Fault
stored σ (Ok t) = roomed t (lacks σ (effect_of t.kind))
stored σ (Err f) = Err f

-- the next token, the fault, or nothing after Eof
abbrev pub answer : State → Result (Option Token) Fault
answer σ = cond σ.standing.ended (Ok None) (stored σ (placed σ (found σ)))

abbrev pub behind : {A : Type 0} → List A → List A
behind [] = []
behind (x ∷ xs) = xs

-- the kind of the string that begins here
abbrev pub quote_of : List ℕ → StringKind
quote_of s = cond (begins (34 ∷ []) s) (kind_of QuoteDouble s) (kind_of QuoteSingle s)

-- what is seen of a token, from what lies ahead before it
abbrev pub seen : Token → List ℕ → Seen
seen t s = record { quote = quote_of s; f = same (take t.length s) (102 ∷ []) }

-- what a small change leaves
abbrev pub changed : Change → Token → Seen → Inner → Inner
changed Nothing t s i = record i { formats = false }
changed Marks t s i = record i { mark = Some t; formats = false }
changed Unmarks t s i = record i { mark = None; formats = false }
changed SeesColon t s i = record i { colon = true; formats = false }
changed Names t s i = record i { formats = s.f }
changed (Opens d) t s i = record i { openers = d ∷ i.openers; formats = false }
changed (Closes d) t s i = record i { openers = behind i.openers; formats = false }
changed BeginsFormat t s i = record i { openers = FormatString s.quote ∷ i.openers; formats = false }
changed EndsFormat t s i = record i { openers = behind i.openers; formats = false }

-- what a token leaves
abbrev pub stood : Effect → Token → Seen → Standing → Standing
stood Indents t s w = record w {
  levels = record { offset = t.position.offset; length = t.length } ∷ w.levels;
  body = w.inner.colon;
  inner = changed Nothing t s w.inner;
}
stood Dedents t s w = record w { levels = behind w.levels; body = false; inner = record w.inner { colon = false; formats = false } }
stood Texts t s w = record w { inner = changed Nothing t s w.inner }
stood Ends t s w = record w { ended = true; inner = changed Nothing t s w.inner }
stood (Other c) t s w = record w { inner = changed c t s w.inner }

-- the session once a token was handed out
abbrev pub after : State → Token → State
after σ t = record σ { place = walk t.length (ahead σ) σ.place; standing = stood (effect_of t.kind) t (seen t (ahead σ)) σ.standing }
