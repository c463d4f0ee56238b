-- Why a reader of an mbox gives no answer, where its buffer does not.
use Rattle.source_buffer.specs.declared.fault.BufferFault.{BufferFault}
use Rattle.source_buffer.specs.declared.fault.BufferFault.TheVariants as buffer
use Rattle.mboxrd.specs.declared.fault.BoxFault.{BoxFault}
use Rattle.mboxrd.specs.declared.fault.BoxFault.TheVariants as box

abbrev pub box_fault : BufferFault → BoxFault
box_fault buffer.Read = box.Read
box_fault buffer.Endless = box.Endless
