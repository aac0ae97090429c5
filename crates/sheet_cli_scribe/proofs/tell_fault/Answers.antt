use Rattle.sheet_cli_scribe.proofs.tell_fault.Goals as goal

pub returns : goal.returns
returns g c = rw c.rejection_text-length.ensures.appends.text at c.tell.ensures
