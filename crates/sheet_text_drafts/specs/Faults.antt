-- What the code's faults mean. A primed name is the definitions'.
use Rattle.std.specs.Prelude.{Bool, true, false, Result, Ok, Err}
use Rattle.model_text.specs.Drafts.{LineRejection as LineRejection', NotStatement as NotStatement', SlotsFirst as SlotsFirst', SlotsTwice as SlotsTwice', AgentCount as AgentCount', DomainSize as DomainSize', BothKinds as BothKinds', NoAgent as NoAgent', SameAgent as SameAgent', HigherFirst as HigherFirst', NotOwned as NotOwned', GapRange as GapRange', LeastAbove as LeastAbove', ManyRecords as ManyRecords', LongText as LongText'}
use Rattle.sheet_text_drafts.specs.declared.fault.LineRejection.{LineRejection}
use Rattle.sheet_text_drafts.specs.declared.fault.LineRejection.TheVariants.{NotStatement, SlotsFirst, SlotsTwice, AgentCount, DomainSize, BothKinds, NoAgent, SameAgent, HigherFirst, NotOwned, GapRange, LeastAbove, ManyRecords, LongText}

abbrev pub fault_of : LineRejection → LineRejection'
fault_of NotStatement = NotStatement'
fault_of SlotsFirst = SlotsFirst'
fault_of SlotsTwice = SlotsTwice'
fault_of AgentCount = AgentCount'
fault_of DomainSize = DomainSize'
fault_of BothKinds = BothKinds'
fault_of (NoAgent k) = NoAgent' k
fault_of SameAgent = SameAgent'
fault_of HigherFirst = HigherFirst'
fault_of (NotOwned k s) = NotOwned' k s
fault_of GapRange = GapRange'
fault_of LeastAbove = LeastAbove'
fault_of ManyRecords = ManyRecords'
fault_of LongText = LongText'

-- this fault, where it does not hold
unfoldable pub needed : Bool → LineRejection → Result (Unit {0}) LineRejection
needed true f = Ok tt
needed false f = Err f
