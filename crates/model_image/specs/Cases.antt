-- P9's image after two rounds, worked out by hand from docs/FORMATS.md, 'The image'; and bytes close to it that are no image.
use Rattle.std.specs.Prelude.{ℕ, List, [], ◌∷◌, ◌++◌, take, set, replicate}
use Rattle.model_network.specs.Network.{Network, start_sheet}
use Rattle.model_network.specs.Run.{run}
use Rattle.model_network.specs.Nights.{sheet9}

unfoldable pub zeros : ℕ → List ℕ
zeros k = replicate k 0

-- a number below 256 in eight bytes
unfoldable pub small : ℕ → List ℕ
small x = x ∷ zeros 7

-- 1, n, the rule, no verdict, the slot counts 2, 1, 2
unfoldable pub header9 : List ℕ
header9 = (1 ∷ 3 ∷ 1 ∷ 0 ∷ []) ++ (2 ∷ 1 ∷ 2 ∷ []) ++ zeros 9

-- 1:1 with 3:1 is bit 0 of the pair 1, 3, behind the pair 1, 2; 2:1 with 3:2 is bit 1 of the pair 2, 3, behind the eleven pairs of scanner 1
unfoldable pub bans9 : List ℕ
bans9 = zeros 8 ++ small 1 ++ zeros 72 ++ small 2 ++ zeros 432

-- scanner 1 at slot 1 informs 3 (bit 2) and has sent one news
unfoldable pub first9 : List ℕ
first9 = (1 ∷ 1 ∷ []) ++ (0 ∷ 0 ∷ []) ++ (4 ∷ 0 ∷ []) ++ zeros 12 ++ zeros 104 ++ small 1 ++ zeros 40

-- scanner 2 at slot 1 listens to 1 by now, and informs 3; it has sent two news, a refusal and a request, and was handed a refusal
unfoldable pub second9 : List ℕ
second9 =
    (1 ∷ 1 ∷ []) ++ (1 ∷ 0 ∷ []) ++ (4 ∷ 0 ∷ []) ++ zeros 12 ++ zeros 104 ++ small 2 ++ small 1 ++ small 1 ++ small 0 ++ small 1 ++ small 0

-- scanner 3 at slot 2 listens to 1 and 2, knows 1 at slot 1 and has forgotten 2; slot 1 has the reason that 1 has slot 1; it has sent a refusal and was
-- handed two news
unfoldable pub third9 : List ℕ
third9 =
    (2 ∷ 2 ∷ []) ++ (3 ∷ 0 ∷ []) ++ (0 ∷ 0 ∷ []) ++ (1 ∷ zeros 11) ++ (1 ∷ 1 ∷ zeros 11) ++ zeros 91
    ++ small 0 ++ small 1 ++ small 0 ++ small 2 ++ small 0 ++ small 0

-- the lines of scanner 1 are empty; of 2, the one to 1 begins with message 1 and the one to 3 with message 3; nothing else waits
unfoldable pub heads9 : List ℕ
heads9 = zeros 22 ++ (1 ∷ 0 ∷ []) ++ (3 ∷ 0 ∷ []) ++ zeros 238

-- a link request, followed by message 2; a refusal of slot 1 with an empty left side; news of slot 1
unfoldable pub messages9 : List ℕ
messages9 = (3 ∷ 0 ∷ 2 ∷ 0 ∷ zeros 12) ++ (2 ∷ 1 ∷ 0 ∷ 0 ∷ zeros 12) ++ (1 ∷ 1 ∷ 0 ∷ 0 ∷ zeros 12)

unfoldable pub image9 : List ℕ
image9 = header9 ++ bans9 ++ first9 ++ second9 ++ third9 ++ heads9 ++ messages9

unfoldable pub network9 : Network
network9 = (run 2 (start_sheet 1 sheet9).network).network

-- ---- docs/RULES.md, 'Why a call comes back': "not the image of a rail in shape, or bytes follow it"

-- the same messages, that of the line from 2 to 3 first: another layout
unfoldable pub turned9 : List ℕ
turned9 =
    header9 ++ bans9 ++ first9 ++ second9 ++ third9 ++ (zeros 22 ++ (2 ∷ 0 ∷ []) ++ (1 ∷ 0 ∷ []) ++ zeros 238)
    ++ (1 ∷ 1 ∷ 0 ∷ 0 ∷ zeros 12) ++ (3 ∷ 0 ∷ 3 ∷ 0 ∷ zeros 12) ++ (2 ∷ 1 ∷ 0 ∷ 0 ∷ zeros 12)

-- nothing; a zero behind the image; its last byte gone; not the first form; a rule 3; a verdict that is neither 0 nor 1; a slot at the link request;
-- another layout
unfoldable pub no_images9 : List (List ℕ)
no_images9 =
    []
    ∷ (image9 ++ (0 ∷ []))
    ∷ take 1365 image9
    ∷ set image9 0 2
    ∷ set image9 2 3
    ∷ set image9 3 2
    ∷ set image9 1319 1
    ∷ turned9
    ∷ []
