mod Sinks
