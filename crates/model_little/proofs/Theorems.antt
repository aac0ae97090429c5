-- The claims about the little sheets.
-- An ordinal has one choice, and a choice one problem, both ways.
use Rattle.std.proofs.Common.{ℕ, ◌<◌, ◌≡◌, refl, sym, ap, ◌∙◌}
use Rattle.model_base.specs.Finite.{gather}
use Rattle.model_sheet.specs.Problem.{max_agents, domain}
use Rattle.model_sheet.specs.Sheet.{Valid, decode}
use Rattle.model_network.specs.Network.{started_on, start_sheet}
use Rattle.model_little.specs.Little.{little_count, most_agents, most_values, counts_of, sizes, bare, pairs_of, places, sets_of, choice_from, little_sheet, choice_of, ordinal_of}
use Rattle.model_little.specs.Claims.{total, Counted, Accepted, Starts, Found, Once, ExactlyOne}
use Rattle.model_little.proofs.Sizes.{sizes-unlike}
use Rattle.model_little.proofs.Choices.{Listed, choice-listed, ordinal-choice, choice-back}
use Rattle.model_little.proofs.Problems.{problem_of, sheet-decodes, choice-again, problem-little}
use Rattle.model_little.proofs.Choosing.{little-chosen}

pub counted : Counted
unfolding gather max_agents domain little_count most_agents most_values counts_of sizes bare pairs_of places sets_of total
counted = (refl, refl, refl, refl)

pub listed : (o : ℕ) → o < little_count → Listed sizes (choice_from sizes o)
listed o h = choice-listed sizes o (rw counted.3 h)

decodes : (o : ℕ) → o < little_count → decode (little_sheet o) ≡ Valid (problem_of (choice_from sizes o))
unfolding little_sheet
decodes o h = sheet-decodes (choice_from sizes o) (listed o h)

pub accepted : Accepted
accepted o h =
    (problem_of (choice_from sizes o), record { below = h; valid = decodes o h }, problem-little (choice_from sizes o) (listed o h))

pub starts : Starts
unfolding started_on start_sheet
starts rule o known h = rw (known, start_sheet, decodes o h)

pub found : Found
unfolding little_sheet ordinal_of
found p e =
    let c = little-chosen p e in
    let b = choice-back sizes (choice_of p) c.listed in
    record {
      below = rw (← counted.3) b.below;
      valid = rw b.choice (sheet-decodes (choice_of p) c.listed ∙ ap Valid c.problem);
    }

pub once : Once
unfolding ordinal_of
once o p s =
    let c = choice_from sizes o in
    let h = listed o s.below in
    let v : Valid (problem_of c) ≡ Valid p = sym (decodes o s.below) ∙ s.valid in
    let q : problem_of c ≡ p = cc in
    rw (← q, choice-again c h) (ordinal-choice sizes o sizes-unlike (rw counted.3 s.below))

pub exactly-one : ExactlyOne
exactly-one p e = (ordinal_of p, found p e, λ o s. sym (once o p s))
