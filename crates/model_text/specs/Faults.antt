-- What is said of a fault, as bytes in ASCII: "`line N: ` and what is wrong". docs/PROGRAMS.md, 'scribe'; docs/FORMATS.md, 'Sheets as text'.
use Rattle.std.specs.Prelude.{ℕ, List, [], ◌∷◌, ◌++◌}
use Rattle.model_base.specs.Decimal.{decimal, newline}
use Rattle.model_text.specs.Drafts.{LineRejection, NotStatement, SlotsFirst, SlotsTwice, AgentCount, DomainSize, BothKinds, NoAgent, SameAgent, HigherFirst, NotOwned, GapRange, LeastAbove, ManyRecords, LongText}

-- ---- the words

-- "line "
unfoldable pub line_word : List ℕ
line_word = 108 ∷ 105 ∷ 110 ∷ 101 ∷ 32 ∷ []

-- ": "
unfoldable pub colon_word : List ℕ
colon_word = 58 ∷ 32 ∷ []

-- "not a statement"
abbrev pub not_statement : List ℕ
not_statement = 110 ∷ 111 ∷ 116 ∷ 32 ∷ 97 ∷ 32 ∷ 115 ∷ 116 ∷ 97 ∷ 116 ∷ 101 ∷ 109 ∷ 101 ∷ 110 ∷ 116 ∷ []

-- "slots must come first"
abbrev pub slots_first : List ℕ
slots_first = 115 ∷ 108 ∷ 111 ∷ 116 ∷ 115 ∷ 32 ∷ 109 ∷ 117 ∷ 115 ∷ 116 ∷ 32 ∷ 99 ∷ 111 ∷ 109 ∷ 101 ∷ 32 ∷ 102 ∷ 105 ∷ 114 ∷ 115 ∷ 116 ∷ []

-- "slots twice"
abbrev pub slots_twice : List ℕ
slots_twice = 115 ∷ 108 ∷ 111 ∷ 116 ∷ 115 ∷ 32 ∷ 116 ∷ 119 ∷ 105 ∷ 99 ∷ 101 ∷ []

-- "1 to 12 scanners"
abbrev pub agent_count : List ℕ
agent_count = 49 ∷ 32 ∷ 116 ∷ 111 ∷ 32 ∷ 49 ∷ 50 ∷ 32 ∷ 115 ∷ 99 ∷ 97 ∷ 110 ∷ 110 ∷ 101 ∷ 114 ∷ 115 ∷ []

-- "a slot count is 1 to 8"
abbrev pub domain_size : List ℕ
domain_size = 97 ∷ 32 ∷ 115 ∷ 108 ∷ 111 ∷ 116 ∷ 32 ∷ 99 ∷ 111 ∷ 117 ∷ 110 ∷ 116 ∷ 32 ∷ 105 ∷ 115 ∷ 32 ∷ 49 ∷ 32 ∷ 116 ∷ 111 ∷ 32 ∷ 56 ∷ []

-- "bans and gaps in one text"
abbrev pub both_kinds : List ℕ
both_kinds =
    98 ∷ 97 ∷ 110 ∷ 115 ∷ 32 ∷ 97 ∷ 110 ∷ 100 ∷ 32 ∷ 103 ∷ 97 ∷ 112 ∷ 115
    ∷ 32 ∷ 105 ∷ 110 ∷ 32 ∷ 111 ∷ 110 ∷ 101 ∷ 32 ∷ 116 ∷ 101 ∷ 120 ∷ 116 ∷ []

-- "no scanner "
unfoldable pub no_agent : List ℕ
no_agent = 110 ∷ 111 ∷ 32 ∷ 115 ∷ 99 ∷ 97 ∷ 110 ∷ 110 ∷ 101 ∷ 114 ∷ 32 ∷ []

-- "the same scanner twice"
abbrev pub same_agent : List ℕ
same_agent = 116 ∷ 104 ∷ 101 ∷ 32 ∷ 115 ∷ 97 ∷ 109 ∷ 101 ∷ 32 ∷ 115 ∷ 99 ∷ 97 ∷ 110 ∷ 110 ∷ 101 ∷ 114 ∷ 32 ∷ 116 ∷ 119 ∷ 105 ∷ 99 ∷ 101 ∷ []

-- "the lower-numbered scanner comes first"
abbrev pub higher_first : List ℕ
higher_first =
    116 ∷ 104 ∷ 101 ∷ 32 ∷ 108 ∷ 111 ∷ 119 ∷ 101 ∷ 114 ∷ 45 ∷ 110 ∷ 117 ∷ 109 ∷ 98 ∷ 101 ∷ 114 ∷ 101 ∷ 100 ∷ 32
    ∷ 115 ∷ 99 ∷ 97 ∷ 110 ∷ 110 ∷ 101 ∷ 114 ∷ 32 ∷ 99 ∷ 111 ∷ 109 ∷ 101 ∷ 115 ∷ 32 ∷ 102 ∷ 105 ∷ 114 ∷ 115 ∷ 116 ∷ []

-- "scanner "
unfoldable pub of_agent : List ℕ
of_agent = 115 ∷ 99 ∷ 97 ∷ 110 ∷ 110 ∷ 101 ∷ 114 ∷ 32 ∷ []

-- " has no slot "
unfoldable pub no_value : List ℕ
no_value = 32 ∷ 104 ∷ 97 ∷ 115 ∷ 32 ∷ 110 ∷ 111 ∷ 32 ∷ 115 ∷ 108 ∷ 111 ∷ 116 ∷ 32 ∷ []

-- "a gap is -7 to 7"
abbrev pub gap_range : List ℕ
gap_range = 97 ∷ 32 ∷ 103 ∷ 97 ∷ 112 ∷ 32 ∷ 105 ∷ 115 ∷ 32 ∷ 45 ∷ 55 ∷ 32 ∷ 116 ∷ 111 ∷ 32 ∷ 55 ∷ []

-- "least is above greatest"
abbrev pub least_above : List ℕ
least_above = 108 ∷ 101 ∷ 97 ∷ 115 ∷ 116 ∷ 32 ∷ 105 ∷ 115 ∷ 32 ∷ 97 ∷ 98 ∷ 111 ∷ 118 ∷ 101 ∷ 32 ∷ 103 ∷ 114 ∷ 101 ∷ 97 ∷ 116 ∷ 101 ∷ 115 ∷ 116 ∷ []

-- "more than 4224 records"
abbrev pub many_records : List ℕ
many_records = 109 ∷ 111 ∷ 114 ∷ 101 ∷ 32 ∷ 116 ∷ 104 ∷ 97 ∷ 110 ∷ 32 ∷ 52 ∷ 50 ∷ 50 ∷ 52 ∷ 32 ∷ 114 ∷ 101 ∷ 99 ∷ 111 ∷ 114 ∷ 100 ∷ 115 ∷ []

-- "text too long"
abbrev pub long_text : List ℕ
long_text = 116 ∷ 101 ∷ 120 ∷ 116 ∷ 32 ∷ 116 ∷ 111 ∷ 111 ∷ 32 ∷ 108 ∷ 111 ∷ 110 ∷ 103 ∷ []

-- ---- the line

unfoldable pub fault_words : LineRejection → List ℕ
fault_words NotStatement = not_statement
fault_words SlotsFirst = slots_first
fault_words SlotsTwice = slots_twice
fault_words AgentCount = agent_count
fault_words DomainSize = domain_size
fault_words BothKinds = both_kinds
fault_words (NoAgent k) = no_agent ++ decimal k
fault_words SameAgent = same_agent
fault_words HigherFirst = higher_first
fault_words (NotOwned k v) = of_agent ++ (decimal k ++ (no_value ++ decimal v))
fault_words GapRange = gap_range
fault_words LeastAbove = least_above
fault_words ManyRecords = many_records
fault_words LongText = long_text

-- of the line with this number
unfoldable pub rejection_text : ℕ → LineRejection → List ℕ
rejection_text n fault = line_word ++ (decimal n ++ (colon_word ++ (fault_words fault ++ newline)))
