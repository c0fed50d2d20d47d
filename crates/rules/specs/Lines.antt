-- The start of a line, the body of a recipe, and which rule comes when.
use Rattle.std.specs.Prelude.{ℕ, Bool, true, false, cond, not, ◌&&◌, ◌||◌, List, [], ◌∷◌, length, take, drop, is_some, Some, None, Option, ◌==◌}
use Rattle.std.specs.List.{prefix_len}
use Rattle.scan.specs.Classes.{gap, white}
use Rattle.scan.specs.Prefix.{begins}
use Rattle.token.specs.declared.kinds.TokenKind.TheVariants as kind
use Rattle.rules.specs.declared.found.Around.{Around}
use Rattle.rules.specs.Found.{Found, Lexed, Fails, Unclosed}
use Rattle.rules.specs.declared.found.Layout.TheVariants as layout
use Rattle.rules.specs.declared.parts.Start.{Start}
use Rattle.rules.specs.declared.parts.Start.TheVariants.{Still, Aligned, Outward, Inward, Wrong}
use Rattle.rules.specs.Scans.{closing, crlf, empty, lf, is_line_over, over_text, scan}
use Rattle.rules.specs.Table.{general, nested}

-- the texts of the open Indents stand innermost first
abbrev pub indented : List (List ℕ) → Bool
indented [] = false
indented (l ∷ ls) = true

-- the text of the innermost Indent, empty if none is open
abbrev pub innermost : List (List ℕ) → List ℕ
innermost [] = []
innermost (l ∷ ls) = l

-- equal: each begins with the other
abbrev pub same : List ℕ → List ℕ → Bool
same a b = begins a b && begins b a

abbrev pub among : List ℕ → List (List ℕ) → Bool
among w [] = false
among w (l ∷ ls) = same w l || among w ls

abbrev pub has : ℕ → List ℕ → Bool
has b [] = false
has b (c ∷ s) = c == b || has b s

-- both a space and a tab
abbrev pub mixed : List ℕ → Bool
mixed w = has 32 w && has 9 w

-- the white space that comes first ends in LF, which the byte before did or did not, and something follows it
abbrev pub outdents : Bool → List ℕ → Bool
outdents fed [] = false
outdents fed (c ∷ s) = cond (white c) (outdents (c == 10) s) fed

-- a line of blanks only
abbrev pub line_of_blanks : (levels : List (List ℕ)) → ℕ → List ℕ → Start
line_of_blanks levels n s = cond (indented levels && outdents false s) Outward (Still n)

-- a run w of n blanks that is neither empty nor an open Indent, where l is the innermost: a body takes what it shares with l and leaves the rest to Text
abbrev pub deeper : (body : Bool) → (l : List ℕ) → ℕ → List ℕ → Start
deeper body l n w =
    cond (body && begins l w) (Aligned (length l))
    (cond (body && mixed (take (length l) w)) (Wrong layout.MixedLeadingWhitespace (length (take (length l) w)))
    (cond (not body && mixed w) (Wrong layout.MixedLeadingWhitespace n)
    (cond (begins l w) (Inward n)
    (Wrong layout.InconsistentLeadingWhitespace n))))

-- a run w of n blanks before something else than a line end
abbrev pub indentation : (body : Bool) → (levels : List (List ℕ)) → ℕ → List ℕ → Start
indentation body levels n w =
    cond (same w (innermost levels)) (Aligned n)
    (cond (empty w || among w levels) Outward
    (deeper body (innermost levels) n w))

abbrev pub start_of : Around → (levels : List (List ℕ)) → ℕ → List ℕ → Start
start_of o levels n s =
    cond (nested o) (Still n)
    (cond (is_line_over (drop n s)) (line_of_blanks levels n s)
    (indentation o.body levels n (take n s)))

-- which rule holds where a line starts
abbrev pub start : Around → (levels : List (List ℕ)) → List ℕ → Start
start o levels s = start_of o levels (prefix_len gap s) s

-- Whitespace, if not empty
abbrev pub space : ℕ → Option Found
space n = cond (n == 0) None (Some (Lexed kind.Whitespace n))

abbrev pub told : Start → Option Found
told (Still n) = space n
told (Aligned n) = space n
told Outward = Some (Lexed kind.Dedent 0)
told (Inward n) = Some (Lexed kind.Indent n)
told (Wrong cause n) = Some (Fails cause 0 n)

-- the end of the text
abbrev pub finish : Around → (levels : List (List ℕ)) → Found
finish o levels = cond o.marked Unclosed (cond (indented levels) (Lexed kind.Dedent 0) (Lexed kind.Eof 0))

-- what stops the text of a body
abbrev pub stop : List ℕ → Found
stop s = cond (begins lf s) (Lexed kind.Eol 1) (cond (begins crlf s) (Lexed kind.Eol 2) (Lexed kind.InterpolationStart 2))

abbrev pub text_or : ℕ → List ℕ → Found
text_or n s = cond (n == 0) (stop s) (Lexed kind.Text n)

-- the body of a recipe
abbrev pub body : List ℕ → Found
body s = text_or (scan over_text 0 false s) s

-- what comes where no line starts, or where its start hands out nothing
abbrev pub onward : Around → (levels : List (List ℕ)) → List ℕ → Found
onward o levels s =
    cond (empty s) (finish o levels)
    (cond ((o.marked && not (is_some o.newest)) && begins closing s) (Lexed kind.InterpolationEnd 2)
    (cond (o.body && not o.marked) (body s)
    (general o s)))

abbrev pub or_else : Option Found → Found → Found
or_else None f = f
or_else (Some g) f = g

-- what is found: at column 0 the start of a line is tried first
abbrev pub rule : (fresh : Bool) → Around → (levels : List (List ℕ)) → List ℕ → Found
rule fresh o levels s = or_else (cond fresh (told (start o levels s)) None) (onward o levels s)
