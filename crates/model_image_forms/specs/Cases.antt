-- P9's image after three rounds in both forms, worked out by hand from docs/FORMATS.md, 'The image' and 'The second form'; and bytes close to them that are
-- no image.
--
-- In round 3 scanner 1 is handed 2's link request and answers it, then 2's refusal of slot 1 with an empty left side: it takes slot 2 and tells 2 and 3.
-- Scanner 3 is handed 2's news of slot 1: 1 has slot 1 and bars slot 1, 2 has slot 1 and bars slot 2, so 3 refuses 2's slot 1 because 1 has slot 1, forgets
-- 2 and takes slot 2 again.
use Rattle.std.specs.Prelude.{ℕ, List, [], ◌∷◌, ◌++◌, take, set}
use Rattle.model_network.specs.Network.{Network, start_sheet}
use Rattle.model_network.specs.Run.{run}
use Rattle.model_network.specs.Nights.{sheet9}
use Rattle.model_image.specs.Cases.{zeros, small as eight, bans9}

unfoldable pub network9 : Network
network9 = (run 3 (start_sheet 1 sheet9).network).network

-- ---- the parts that stay

-- the form, n, the rule, no verdict, the slot counts 2, 1, 2; and the two bans
unfoldable pub front9 : ℕ → List ℕ
front9 form = (form ∷ 3 ∷ 1 ∷ 0 ∷ []) ++ (2 ∷ 1 ∷ 2 ∷ []) ++ zeros 9 ++ bans9

-- of the lines of scanner 1 the one to 2 begins with message 1 and the one to 3 with message 3; those of 2 are empty; of 3, the one to 1 is empty and the
-- one to 2 begins with message 4
unfoldable pub heads9 : List ℕ
heads9 = (1 ∷ 0 ∷ []) ++ (3 ∷ 0 ∷ []) ++ zeros 18 ++ zeros 22 ++ zeros 2 ++ (4 ∷ 0 ∷ []) ++ zeros 216

-- ---- the first form: record by record

-- scanner 1 at slot 2 informs 2 and 3 (bits 1 and 2); slot 1 has a reason with an empty left side; it has sent four news, at the start, as answer to the
-- request and two of slot 2, and was handed a refusal and a request
unfoldable pub agent1 : List ℕ
agent1 =
    (2 ∷ 2 ∷ []) ++ (0 ∷ 0 ∷ []) ++ (6 ∷ 0 ∷ []) ++ zeros 12 ++ (1 ∷ zeros 12) ++ zeros 91
    ++ eight 4 ++ eight 0 ++ eight 0 ++ eight 0 ++ eight 1 ++ eight 1

-- scanner 2 is as round 2 left it: at slot 1 it listens to 1 and informs 3; it has sent two news, a refusal and a request, and was handed a refusal
unfoldable pub agent2 : List ℕ
agent2 =
    (1 ∷ 1 ∷ []) ++ (1 ∷ 0 ∷ []) ++ (4 ∷ 0 ∷ []) ++ zeros 12 ++ zeros 104
    ++ eight 2 ++ eight 1 ++ eight 1 ++ eight 0 ++ eight 1 ++ eight 0

-- scanner 3 at slot 2 listens to 1 and 2, knows 1 at slot 1 and has forgotten 2; slot 1 has the reason that 1 has slot 1; it has sent two refusals and was
-- handed three news
unfoldable pub agent3 : List ℕ
agent3 =
    (2 ∷ 2 ∷ []) ++ (3 ∷ 0 ∷ []) ++ (0 ∷ 0 ∷ []) ++ (1 ∷ zeros 11) ++ (1 ∷ 1 ∷ zeros 11) ++ zeros 91
    ++ eight 0 ++ eight 2 ++ eight 0 ++ eight 3 ++ eight 0 ++ eight 0

-- from 1 to 2, news of slot 1, followed by message 2, news of slot 2; from 1 to 3, news of slot 2; from 3 to 2, a refusal of slot 1, as 1 has slot 1
unfoldable pub messages9 : List ℕ
messages9 =
    (1 ∷ 1 ∷ 2 ∷ 0 ∷ zeros 12)
    ++ (1 ∷ 2 ∷ 0 ∷ 0 ∷ zeros 12)
    ++ (1 ∷ 2 ∷ 0 ∷ 0 ∷ zeros 12)
    ++ (2 ∷ 1 ∷ 0 ∷ 0 ∷ 1 ∷ zeros 11)

-- 808 + 170 × 3 + 16 × 4 = 1,382 bytes
unfoldable pub large9 : List ℕ
large9 = front9 1 ++ agent1 ++ agent2 ++ agent3 ++ heads9 ++ messages9

-- ---- the second form: place by place, a byte of each of scanners 1, 2 and 3

-- slot, last slot, two bytes of the mask listened to, two of the mask informed
unfoldable pub held9 : List ℕ
held9 = (2 ∷ 1 ∷ 2 ∷ []) ++ (2 ∷ 1 ∷ 2 ∷ []) ++ (0 ∷ 1 ∷ 3 ∷ []) ++ zeros 3 ++ (6 ∷ 4 ∷ 0 ∷ []) ++ zeros 3

-- twelve view slots: only 3 knows 1
unfoldable pub views9 : List ℕ
views9 = (0 ∷ 0 ∷ 1 ∷ []) ++ zeros 33

-- eight reasons of thirteen bytes: that of slot 1 is stored at 1 and 3, and names scanner 1 at 3
unfoldable pub reasons9 : List ℕ
reasons9 = (1 ∷ 0 ∷ 1 ∷ []) ++ (0 ∷ 0 ∷ 1 ∷ []) ++ zeros 33 ++ zeros 273

-- six counts of eight bytes, the low bytes first: news, refusals and requests sent, then received
unfoldable pub counts9 : List ℕ
counts9 =
    (4 ∷ 2 ∷ 0 ∷ []) ++ zeros 21 ++ (0 ∷ 1 ∷ 2 ∷ []) ++ zeros 21 ++ (0 ∷ 1 ∷ 0 ∷ []) ++ zeros 21
    ++ (0 ∷ 0 ∷ 3 ∷ []) ++ zeros 21 ++ (1 ∷ 1 ∷ 0 ∷ []) ++ zeros 21 ++ (1 ∷ 0 ∷ 0 ∷ []) ++ zeros 21

-- a byte of each of the four messages: the sorts, the slots, two bytes of the next index; then the left sides, two scanners a byte: only the refusal has
-- one, scanner 1 at slot 1, in the low half of the first
unfoldable pub packed9 : List ℕ
packed9 = (1 ∷ 1 ∷ 1 ∷ 2 ∷ []) ++ (1 ∷ 2 ∷ 2 ∷ 1 ∷ []) ++ (2 ∷ 0 ∷ 0 ∷ 0 ∷ []) ++ zeros 4 ++ (0 ∷ 0 ∷ 0 ∷ 1 ∷ []) ++ zeros 20

-- 808 + 170 × 3 + 10 × 4 = 1,358 bytes
unfoldable pub small9 : List ℕ
small9 = front9 2 ++ held9 ++ views9 ++ reasons9 ++ counts9 ++ heads9 ++ packed9

-- ---- docs/RULES.md, 'Why a call comes back': "not the image of a rail in shape, or bytes follow it"

-- nothing; a zero behind the second form; its last byte gone; the halves of the refusal's first packed byte exchanged; the first byte of either form on
-- the bytes of the other. (What is close to a first form stands in model_image.)
unfoldable pub no_images9 : List (List ℕ)
no_images9 =
    []
    ∷ (small9 ++ (0 ∷ []))
    ∷ take 1357 small9
    ∷ set small9 1337 16
    ∷ set large9 0 2
    ∷ set small9 0 1
    ∷ []
