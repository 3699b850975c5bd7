-- `why::Reason::in_parts` meets its contract.
-- Assumes nothing.
use Rattle.why.proofs.Reason.in_parts.Goals as goal

pub returns-in-Plain : goal.returns-in-Plain
returns-in-Plain c = rw c.in-Plain.is c.made.ensures

pub returns-in-Address : goal.returns-in-Address
returns-in-Address c = rw c.in-Address.is c.made-in-Address.ensures

pub returns-in-Branch : goal.returns-in-Branch
returns-in-Branch c = rw c.in-Branch.is c.made-in-Branch.ensures

pub returns-in-PcRelative : goal.returns-in-PcRelative
returns-in-PcRelative c = rw c.in-PcRelative.is c.made-in-PcRelative.ensures

pub returns-in-Offset : goal.returns-in-Offset
returns-in-Offset c = rw c.in-Offset.is c.made-in-Offset.ensures

pub returns-in-Refused : goal.returns-in-Refused
returns-in-Refused c = rw (c.in-Refused.is, ← c.number.ensures) c.made-in-Refused.ensures
