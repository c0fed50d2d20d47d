-- What an answer tells its caller: a value, or the number of a refusal, its layer, and the part of the text that it stands over.
use Rattle.std.specs.Prelude.{ℕ, List, ◌++◌, codes, decimal, Ok, Err, Result}
use Rattle.token.specs.Causes.{number_of}
use Rattle.token.specs.declared.fault.Fault.{Fault}
use Rattle.token.specs.declared.fault.Layer.{Layer}
use Rattle.token.specs.declared.place.Position.{Position}
use Rattle.token.specs.declared.place.Token.{Token}

pub record Refusal : Type 0 where
  pub number : ℕ
  pub layer : Layer
  pub offset : ℕ
  pub length : ℕ
  pub line : ℕ
  pub column : ℕ
  pub needed : ℕ

pub data Told (A : Type 0) : Type 0 where
  gave : A → Told A
  refused : Refusal → Told A

abbrev pub refusal : Fault → Refusal
refusal f = record {
  number = number_of f.cause;
  layer = f.layer;
  offset = f.position.offset;
  length = f.length;
  line = f.position.line;
  column = f.position.column;
  needed = f.needed;
}

-- an answer by what its value shows
abbrev pub told_by : {A B : Type 0} → (A → B) → Result A Fault → Told B
told_by f (Ok a) = gave (f a)
told_by f (Err e) = refused (refusal e)

abbrev pub told : {A : Type 0} → Result A Fault → Told A
told (Ok a) = gave a
told (Err e) = refused (refusal e)

-- refused under a number by a layer, over the record of a token, whatever its numbers
abbrev pub refused_over : {A : Type 0} → ℕ → Layer → Token → Told A
refused_over n l t = refused record {
  number = n;
  layer = l;
  offset = t.position.offset;
  length = t.length;
  line = t.position.line;
  column = t.position.column;
  needed = 0;
}

-- where every text begins
abbrev pub origin : Position
origin = record { offset = 0; line = 0; column = 0 }

-- as a refusal is printed: fault N line:column offset length
abbrev pub fault_shown : Refusal → List ℕ
fault_shown r =
    codes "fault " ++ (decimal r.number ++ (codes " " ++ (decimal r.line ++ (codes ":" ++ (decimal r.column
    ++ (codes " " ++ (decimal r.offset ++ (codes " " ++ decimal r.length))))))))
