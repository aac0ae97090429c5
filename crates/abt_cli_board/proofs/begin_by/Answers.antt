-- By whether the file is an image.
use Rattle.std.proofs.Common.{◌≡◌, ℕ, ◌++◌, OnOk, subst, ap, ◌∙◌, IfOk}
use Rattle.model_dispatch.specs.Dispatch.{dispatcher}
use Rattle.abt_board_text.specs.Calling.{BeginsAs}
use Rattle.model_network.specs.Network.{start_sheet}
use Rattle.abt_board_text.specs.Options.{rule_of}
use Rattle.abt_board_text.specs.Text.{start_text}
use Rattle.abt_cli_board.specs.Answers.{Began, image_began, sheet_began}
use Rattle.abt_cli_board.proofs.Beginning.{if-ok, began-image, began-sheet}
use Rattle.abt_cli_board.proofs.begin_by.Goals as goal

pub returns-then-o-clause-text : goal.returns-then-o-clause-text
unfolding image_began
returns-then-o-clause-text c =
    subst (λ (b : Began). OnOk c.put_image.result (c.put_image.new.out.items ≡ c.args.out.now.items ++ b.text))
    (began-image c.args.o c.args.bytes.now c.if-o.true)
    c.put_image.ensures.text

pub returns-then-o-clause-number : goal.returns-then-o-clause-number
unfolding image_began
returns-then-o-clause-number c =
    if-ok c.put_image.result (λ a l. l.numbered ∙ ap (λ (b : Began). b.number) (began-image c.args.o c.args.bytes.now c.if-o.true)) c.put_image.ensures.loaded

pub returns-then-o-clause-network : goal.returns-then-o-clause-network
unfolding image_began
returns-then-o-clause-network c =
    if-ok c.put_image.result (λ a l. l.loaded ∙ ap (λ (b : Began). dispatcher b.network) (began-image c.args.o c.args.bytes.now c.if-o.true)) c.put_image.ensures.loaded

pub returns-else-o-clause-text : goal.returns-else-o-clause-text
unfolding sheet_began
returns-else-o-clause-text c =
    subst (λ (b : Began). OnOk c.put_start.result (c.put_start.new.out.items ≡ c.args.out.now.items ++ b.text))
    (began-sheet c.args.o c.args.bytes.now c.if-o.false)
    (subst (λ (k : ℕ). OnOk c.put_start.result (c.put_start.new.out.items ≡ c.args.out.now.items ++ start_text (start_sheet k c.args.bytes.now))) c.rule_of.ensures c.put_start.ensures.text)

pub returns-else-o-clause-number : goal.returns-else-o-clause-number
unfolding sheet_began
returns-else-o-clause-number c =
    if-ok {P = λ b. BeginsAs (rule_of c.args.o) c.args.bytes.now b} c.put_start.result (λ a l. l.numbered ∙ ap (λ (b : Began). b.number) (began-sheet c.args.o c.args.bytes.now c.if-o.false)) (subst (λ (k : ℕ). IfOk c.put_start.result (λ b. BeginsAs k c.args.bytes.now b)) c.rule_of.ensures c.put_start.ensures.begun)

pub returns-else-o-clause-network : goal.returns-else-o-clause-network
unfolding sheet_began
returns-else-o-clause-network c =
    if-ok {P = λ b. BeginsAs (rule_of c.args.o) c.args.bytes.now b} c.put_start.result (λ a l. l.started ∙ ap (λ (b : Began). dispatcher b.network) (began-sheet c.args.o c.args.bytes.now c.if-o.false)) (subst (λ (k : ℕ). IfOk c.put_start.result (λ b. BeginsAs k c.args.bytes.now b)) c.rule_of.ensures c.put_start.ensures.begun)
