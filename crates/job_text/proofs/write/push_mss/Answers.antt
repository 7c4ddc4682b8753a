use Rattle.job_text.proofs.write.push_mss.Goals as goal

pub returns : goal.returns
returns c = rw (c.as_bytes.ensures.value, c.as_bytes-2.ensures.value, c.as_bytes-3.ensures.value, c.as_bytes-frames.ensures.value, c.as_bytes-recorders.ensures.value, c.format.ensures.text, c.format-2.ensures.text) at c.push_line.ensures
