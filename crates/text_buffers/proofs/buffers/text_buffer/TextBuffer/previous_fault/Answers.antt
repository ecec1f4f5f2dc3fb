use Rattle.text_buffers.proofs.buffers.text_buffer.TextBuffer.previous_fault.Goals as goal

pub returns : goal.returns
returns g c = rw (← c.self.view_is) c.fault_before.ensures
