-- What a line asks for, by the first letters of its word and how many numbers it has.
use Rattle.std.specs.Prelude.{ℕ, cond, ◌&&◌, List, [], ◌∷◌, Option, Some, None, eqb, ltb, leb, length}
use Rattle.std.specs.Borrow.{Bor}
use Rattle.std.specs.List.{find, starts_with}
use Rattle.std.specs.Option.{option_map}
use Rattle.gate_script.specs.declared.kinds.Kind.{Kind}
use Rattle.gate_script.specs.declared.kinds.Kind.TheVariants.{Case, Start, Refused, Same, Differs, Run, Taken, Last, Deliver, Line, Slots, Ban, Each, Hex, Zeros, Keep, Dock, Board, Word, OptionWord, End, Add, All, Raw, Season, Empty}

-- what a row says
abbrev pub said : List ℕ × Kind → Kind
said row = row.1

-- what the first row says whose letters a line begins with
unfoldable pub first_of : List (List ℕ × Kind) → List ℕ → Option Kind
first_of rows line = option_map said (find (λ (row : List ℕ × Kind). starts_with eqb line row.0) rows)

-- the same of rows whose letters are lent
unfoldable pub first_in : List (Bor (List ℕ) × Kind) → List ℕ → Option Kind
first_in rows line =
    option_map (λ (row : Bor (List ℕ) × Kind). row.1) (find (λ (row : Bor (List ℕ) × Kind). starts_with eqb line row.0.now) rows)

-- the letters that words begin with, and what their lines ask for
unfoldable pub words : List (List ℕ × Kind)
words =
    (97 ∷ 100 ∷ [], Add)  -- ad
    ∷ (97 ∷ [], All)  -- a
    ∷ (99 ∷ [], Case)  -- c
    ∷ (115 ∷ 108 ∷ [], Slots)  -- sl
    ∷ (115 ∷ 116 ∷ [], Start)  -- st
    ∷ (115 ∷ 97 ∷ [], Same)  -- sa
    ∷ (115 ∷ 101 ∷ [], Season)  -- se
    ∷ (98 ∷ 111 ∷ [], Board)  -- bo
    ∷ (98 ∷ [], Ban)  -- b
    ∷ (101 ∷ 110 ∷ [], End)  -- en
    ∷ (101 ∷ [], Each)  -- e
    ∷ (104 ∷ [], Hex)  -- h
    ∷ (122 ∷ [], Zeros)  -- z
    ∷ (114 ∷ 117 ∷ [], Run)  -- ru
    ∷ (114 ∷ 97 ∷ [], Raw)  -- ra
    ∷ (114 ∷ [], Refused)  -- r
    ∷ (107 ∷ [], Keep)  -- k
    ∷ (116 ∷ [], Taken)  -- t
    ∷ (100 ∷ 111 ∷ [], Dock)  -- do
    ∷ (100 ∷ 105 ∷ [], Differs)  -- di
    ∷ (100 ∷ [], Deliver)  -- d
    ∷ (108 ∷ 97 ∷ [], Last)  -- la
    ∷ (108 ∷ [], Line)  -- l
    ∷ (119 ∷ [], Word)  -- w
    ∷ (111 ∷ [], OptionWord)  -- o
    ∷ []

-- the kind of a line by its word
unfoldable pub kind_by : List ℕ → Option Kind
kind_by line = first_of words line

-- so many numbers a line of this kind has at least
abbrev pub least_numbers : Kind → ℕ
least_numbers Refused = 1
least_numbers Run = 1
least_numbers Deliver = 2
least_numbers Line = 3
least_numbers Ban = 4
least_numbers Each = 5
least_numbers Zeros = 1
least_numbers Dock = 1
least_numbers kind = 0

-- and so many at most; no line has more than sixteen
abbrev pub most_numbers : Kind → ℕ
most_numbers Start = 1
most_numbers Refused = 2
most_numbers Run = 2
most_numbers Taken = 12
most_numbers Last = 12
most_numbers Deliver = 3
most_numbers Line = 4
most_numbers Slots = 12
most_numbers Ban = 4
most_numbers Each = 5
most_numbers Zeros = 1
most_numbers Dock = 1
most_numbers Board = 1
most_numbers kind = 16

-- a kind, where a line of it can have so many numbers
unfoldable pub fitting : ℕ → Option Kind → Option Kind
fitting numbers None = None
fitting numbers (Some kind) = cond (leb (least_numbers kind) numbers && leb numbers (most_numbers kind)) (Some kind) None

-- the kind of a line that has so many numbers
unfoldable pub kind_of : List ℕ → ℕ → Option Kind
kind_of line numbers = cond (ltb (length line) 2) (Some Empty) (fitting numbers (kind_by line))
