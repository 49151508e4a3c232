mod NewPorts
