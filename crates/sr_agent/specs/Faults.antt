-- The faults of the passes, as those of a run.
use Rattle.sr_receive_gather.specs.declared.fault.ReceiveFault.{ReceiveFault}
use Rattle.sr_receive_gather.specs.declared.fault.ReceiveFault.TheVariants as receives
use Rattle.sr_send.specs.declared.fault.SendFault.{SendFault}
use Rattle.sr_send.specs.declared.fault.SendFault.TheVariants as sends
use Rattle.sr_agent.specs.declared.fault.AgentFault.{AgentFault}
use Rattle.sr_agent.specs.declared.fault.AgentFault.TheVariants.{Disk, Mail, Full, Long, Memory}

abbrev pub fault_of_receive : ReceiveFault → AgentFault
fault_of_receive receives.Disk = Disk
fault_of_receive receives.Mail = Mail
fault_of_receive (receives.Full end need) = Full end need
fault_of_receive (receives.Long size limit) = Long size limit
fault_of_receive receives.Memory = Memory

abbrev pub fault_of_send : SendFault → AgentFault
fault_of_send sends.Disk = Disk
fault_of_send sends.Mail = Mail
fault_of_send (sends.Full end need) = Full end need
fault_of_send (sends.Long size limit) = Long size limit
fault_of_send sends.Memory = Memory
