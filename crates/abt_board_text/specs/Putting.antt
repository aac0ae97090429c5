-- The texts by what the code has: a dispatcher or a refusal, and what the last of some calls came to.
use Rattle.std.specs.Prelude.{List, ℕ, [], Option, Some, None, Result, Ok, Err, codes}
use Rattle.support_rejection.specs.Rejections.{rejection_number}
use Rattle.support_rejection.specs.declared.Rejection.{Rejection}
use Rattle.model_network.specs.Network.{Network}
use Rattle.abt_record.specs.Abstract.{network_of}
use Rattle.model_base.specs.Decimal.{line_of as number_line}
use Rattle.abt_dispatch.specs.declared.Dispatcher.{Dispatcher}
use Rattle.abt_calls.specs.Outcomes.{Came}
use Rattle.abt_board_text.specs.Text.{first_text, unstarted_text, came_text}

abbrev pub begun_text : Result Dispatcher Rejection → List ℕ
begun_text (Ok d) = first_text (codes "start") (network_of d.network)
begun_text (Err e) = unstarted_text (rejection_number e)

abbrev pub loaded_text : Result Dispatcher Rejection → List ℕ
loaded_text (Ok d) = first_text (codes "image") (network_of d.network)
loaded_text (Err e) = number_line (codes "image refused ") (rejection_number e)

abbrev pub last_text : Option Came → Network → List ℕ
last_text None w = []
last_text (Some c) w = came_text c w
